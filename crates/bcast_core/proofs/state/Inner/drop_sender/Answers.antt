use Rattle.std.proofs.Common.{le_antisymm, zero-le}
use Rattle.bcast_core.proofs.Common.{refl, sym, ap, ◌∙◌, eq-eqb, ends, inside_shown, shown_after, told_left, unchanged, valid_shown, fewer_senders}
use Rattle.bcast_core.proofs.state.Inner.drop_sender.Goals as goal

pub returns-then-self-gt0 : goal.returns-then-self-gt0
returns-then-self-gt0 g c =
    let here = inside_shown (ap (λ inside. inside.parts) c.self-inside.view_is) c.self.view_is c.self.invariant in
    let valid = valid_shown here.1 in
    ends here.0 here.1 tt (fewer_senders valid c.if-self-gt0.true) (c.close_if_deserted.ensures ∙ sym (told_left _ _ _ valid))

pub returns-else-self-gt0 : goal.returns-else-self-gt0
returns-else-self-gt0 g c =
    let here = inside_shown (ap (λ inside. inside.parts) c.self-inside.view_is) c.self.view_is c.self.invariant in
    let none = eq-eqb _ 0 (le_antisymm c.if-self-gt0.false zero-le) in
    unchanged here.0 here.1 (sym here.0) tt refl (rw none refl)

pub invariant_of-self : goal.invariant_of-self
invariant_of-self g c = shown_after (returns-then-self-gt0 g c)
