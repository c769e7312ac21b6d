-- The steps are a lawful run with one more, and who made it knows them all, and where it reads on.
use Rattle.std.proofs.Common.{sym, subst}
use Rattle.bcast_model.specs.Words.{Represents}
use Rattle.bcast_history.specs.History.{end_of}
use Rattle.bcast_history.proofs.Grown.{grown, kept}
use Rattle.bcast_history.proofs.steps.StepJournalCallJournal.append.Goals as goal

pub read_on-requires-clause-shown : goal.read_on-requires-clause-shown
read_on-requires-clause-shown g c =
    let made = grown _ _ c.append.ensures.appended c.requires.capacity g.row.T.coded c.self.view_is c.requires.recorded c.self.invariant.0 c.requires.answers in
    subst (λ ss. Represents c.args.after.now (end_of g.J.Channel.opening ss)) (sym c.append.ensures.knows) made.run.end

pub invariant_of-self : goal.invariant_of-self
invariant_of-self g c =
    let made = grown _ _ c.append.ensures.appended c.requires.capacity g.row.T.coded c.self.view_is c.requires.recorded c.self.invariant.0 c.requires.answers in
    let all = kept _ made c.requires.moves c.self.invariant.1 c.seen-seen.ensures c.append.ensures.before c.append.ensures.knows c.read_on.ensures.claimed c.read_on.ensures.registry.1 c.read_on.ensures.reads in
    (made.lawful, all.0, c.read_on.ensures.registry.0)

pub returns-clause-records : goal.returns-clause-records
returns-clause-records g c =
    ∣ (grown _ _ c.append.ensures.appended c.requires.capacity g.row.T.coded c.self.view_is c.requires.recorded c.self.invariant.0 c.requires.answers).run.end ∣₁

pub returns-clause-learned : goal.returns-clause-learned
returns-clause-learned g c =
    let made = grown _ _ c.append.ensures.appended c.requires.capacity g.row.T.coded c.self.view_is c.requires.recorded c.self.invariant.0 c.requires.answers in
    (kept _ made c.requires.moves c.self.invariant.1 c.seen-seen.ensures c.append.ensures.before c.append.ensures.knows c.read_on.ensures.claimed c.read_on.ensures.registry.1 c.read_on.ensures.reads).1
