-- The steps are a lawful run with one more, and the cursor of the receiver that was added is claimed.
use Rattle.std.proofs.Common.{◌≡◌, Some, None, sym, ap, ◌∙◌, subst}
use Rattle.std.proofs.lemmas.Option.{none-some}
use Rattle.claims.specs.Claims.{claim_of, put}
use Rattle.bcast_model.specs.Words.{Represents, View, cursor_of}
use Rattle.bcast_core.proofs.Making.{not_some}
use Rattle.async_broadcast.proofs.Adding.{adding_allowed, adding_moves_none}
use Rattle.bcast_history.specs.History.{end_of}
use Rattle.bcast_history.specs.Tracker.{AreCursors, Tracker}
use Rattle.bcast_history.proofs.Added.{kept_added, still_free}
use Rattle.bcast_history.proofs.Claimed.{claims_cursor}
use Rattle.bcast_history.proofs.Grown.{grown, kept}
use Rattle.bcast_history.proofs.steps.StepJournalCallJournal.append_receiver.Goals as goal

pub read_on-requires-clause-shown : goal.read_on-requires-clause-shown
read_on-requires-clause-shown g c =
    let made = grown _ _ c.append.ensures.appended (adding_allowed _ c.args.call) g.row.T.coded c.self.view_is c.requires.recorded c.self.invariant.0 c.requires.answers in
    subst (λ ss. Represents c.args.after.now (end_of g.J.Channel.opening ss)) (sym c.append.ensures.knows) made.run.end

pub unreachable-requires : goal.unreachable-requires
unreachable-requires g c =
    let here = kept_added g.J.Channel.opening c.args.call c.args.key g.row.T.coded c.self.view_is c.requires.recorded c.self.invariant.0 c.requires.answers in
    absurd (cc (sym c.in_default.is ∙ c.cursor.ensures ∙ here.1.1))

pub new-requires-clause-unclaimed : goal.new-requires-clause-unclaimed
new-requires-clause-unclaimed g c =
    let here = kept_added g.J.Channel.opening c.args.call c.args.key g.row.T.coded c.self.view_is c.requires.recorded c.self.invariant.0 c.requires.answers in
    let free = not_some (claim_of c.self.inside.registry.claims c.args.key) (λ next is. none-some next (sym here.0 ∙ c.self.invariant.1 c.args.key next is)) in
    subst (λ claims. claim_of claims c.args.key ≡ None) (sym c.read_on.ensures.registry.1)
    (still_free c.self.inside.registry.claims c.args.key _ _ _ free c.read_on.ensures.claimed)

pub new-requires-clause-there : goal.new-requires-clause-there
new-requires-clause-there g c =
    let made = grown _ _ c.append.ensures.appended (adding_allowed _ c.args.call) g.row.T.coded c.self.view_is c.requires.recorded c.self.invariant.0 c.requires.answers in
    let known = c.seen-known.ensures ∙ ap (λ (t : Tracker g.row.T.Denot). t.steps) c.read_on.ensures.reads ∙ c.append.ensures.knows in
    ap (λ ss. cursor_of (end_of g.J.Channel.opening ss).control c.args.key) known
    ∙ ap (λ (v : View g.row.T.Denot). cursor_of v.control c.args.key) (sym made.run.end) ∙ sym c.cursor.ensures ∙ c.in-Some.is

pub invariant_of-self : goal.invariant_of-self
invariant_of-self g c =
    let made = grown _ _ c.append.ensures.appended (adding_allowed _ c.args.call) g.row.T.coded c.self.view_is c.requires.recorded c.self.invariant.0 c.requires.answers in
    let all = kept _ made (adding_moves_none _ _ c.args.call) c.self.invariant.1 c.seen-seen.ensures c.append.ensures.before c.append.ensures.knows c.read_on.ensures.claimed c.read_on.ensures.registry.1 c.read_on.ensures.reads in
    let at = (end_of g.J.Channel.opening c.append.new.self).control in
    let there : Some c.in-Some.next ≡ cursor_of at c.args.key =
    sym c.in-Some.is ∙ c.cursor.ensures ∙ ap (λ (v : View g.row.T.Denot). cursor_of v.control c.args.key) made.run.end in (
      made.lawful,
      subst (AreCursors at) (sym (c.new.ensures.registry.1 ∙ ap (put c.read_on.new.registry.claims c.args.key) there))
          (claims_cursor at c.read_on.new.registry.claims c.args.key all.0),
      c.new.ensures.registry.0,
    )

pub returns-clause-records : goal.returns-clause-records
returns-clause-records g c =
    ∣ (grown _ _ c.append.ensures.appended (adding_allowed _ c.args.call) g.row.T.coded c.self.view_is c.requires.recorded c.self.invariant.0 c.requires.answers).run.end ∣₁

pub returns-clause-learned : goal.returns-clause-learned
returns-clause-learned g c =
    let made = grown _ _ c.append.ensures.appended (adding_allowed _ c.args.call) g.row.T.coded c.self.view_is c.requires.recorded c.self.invariant.0 c.requires.answers in
    (kept _ made (adding_moves_none _ _ c.args.call) c.self.invariant.1 c.seen-seen.ensures c.append.ensures.before c.append.ensures.knows c.read_on.ensures.claimed c.read_on.ensures.registry.1 c.read_on.ensures.reads).1
