-- The steps are a lawful run with the receives, and who made them knows them all, and where it reads
-- on.
use Rattle.std.proofs.Common.{◌<◌, length, sym, subst, arith}
use Rattle.std.proofs.lemmas.Grind.{common_steps}
use Rattle.bcast_model.specs.Words.{Represents}
use Rattle.bcast_history.specs.History.{end_of}
use Rattle.bcast_history.proofs.Grown.{grown_each, kept}
use Rattle.bcast_history.proofs.steps.StepJournalCallJournal.append_receives.Goals as goal

pub read_on-requires-clause-shown : goal.read_on-requires-clause-shown
read_on-requires-clause-shown g c =
    let some : 0 < length c.args.msgs.now = grind (arith, common_steps) in
    let made = grown_each c.args.key c.args.msgs.now some c.append_each.ensures.appended g.row.T.coded c.self.view_is c.requires.recorded c.self.invariant.0 c.requires.received in
    subst (λ ss. Represents c.args.after.now (end_of g.J.Channel.opening ss)) (sym c.append_each.ensures.knows) made.run.end

pub invariant_of-self : goal.invariant_of-self
invariant_of-self g c =
    let some : 0 < length c.args.msgs.now = grind (arith, common_steps) in
    let made = grown_each c.args.key c.args.msgs.now some c.append_each.ensures.appended g.row.T.coded c.self.view_is c.requires.recorded c.self.invariant.0 c.requires.received in
    let all = kept _ made c.requires.moves c.self.invariant.1 c.seen-seen.ensures c.append_each.ensures.before c.append_each.ensures.knows c.read_on.ensures.claimed c.read_on.ensures.registry.1 c.read_on.ensures.reads in
    (made.lawful, all.0, c.read_on.ensures.registry.0)

pub returns-clause-records : goal.returns-clause-records
returns-clause-records g c =
    let some : 0 < length c.args.msgs.now = grind (arith, common_steps) in
    ∣ (grown_each c.args.key c.args.msgs.now some c.append_each.ensures.appended g.row.T.coded c.self.view_is c.requires.recorded c.self.invariant.0 c.requires.received).run.end ∣₁

pub returns-clause-learned : goal.returns-clause-learned
returns-clause-learned g c =
    let some : 0 < length c.args.msgs.now = grind (arith, common_steps) in
    let made = grown_each c.args.key c.args.msgs.now some c.append_each.ensures.appended g.row.T.coded c.self.view_is c.requires.recorded c.self.invariant.0 c.requires.received in
    (kept _ made c.requires.moves c.self.invariant.1 c.seen-seen.ensures c.append_each.ensures.before c.append_each.ensures.knows c.read_on.ensures.claimed c.read_on.ensures.registry.1 c.read_on.ensures.reads).1 c.requires.moves
