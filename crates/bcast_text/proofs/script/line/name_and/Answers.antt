-- The first space ends the name.
use Rattle.std.proofs.Common.{None, Some, refl, sym, subst, ◌∙◌}
use Rattle.bcast_text.specs.Name.{IsName}
use Rattle.bcast_text.proofs.Spaced.{at_space, name_space}
use Rattle.bcast_text.proofs.script.line.name_and.Goals as goal

pub returns-in_err-first-clause-none : goal.returns-in_err-first-clause-none
returns-in_err-first-clause-none c _ first last is same =
    at_space _ first last None c.in_err-first.ensures.cases (name_space first is) same

pub returns-in_err-as_name-clause-none : goal.returns-in_err-as_name-clause-none
returns-in_err-as_name-clause-none c _ first last is same =
    let split = at_space _ first last (Some (c.in_ok-first.first, c.in_ok-first.last)) c.in_ok-first.ensures.cases (name_space first is) same in
    c.in_err-as_name.ensures.none refl (subst IsName (sym split.0) is)

pub returns-clause-only : goal.returns-clause-only
returns-clause-only c first last is same =
    let split = at_space _ first last (Some (c.in_ok-first.first, c.in_ok-first.last)) c.in_ok-first.ensures.cases (name_space first is) same in
    (sym split.0 ∙ sym c.in_ok-as_name.ensures.same, sym split.1)
