-- The first space ends the topic's name.
use Rattle.std.proofs.Common.{None, Some, refl, sym, subst, ◌∙◌}
use Rattle.topics.specs.Name.{IsName}
use Rattle.bcast_text.proofs.Spaced.{at_space}
use Rattle.bcast_play.proofs.Lines.{topic_space}
use Rattle.bcast_play.proofs.hub.line.topic_and.Goals as goal

pub returns-in_err-name-clause-none : goal.returns-in_err-name-clause-none
returns-in_err-name-clause-none c _ name last is same =
    at_space _ name last None c.in_err-name.ensures.cases (topic_space name is) same

pub returns-in_err-topic-clause-none : goal.returns-in_err-topic-clause-none
returns-in_err-topic-clause-none c _ name last is same =
    let split = at_space _ name last (Some (c.in_ok-name.name, c.in_ok-name.last)) c.in_ok-name.ensures.cases (topic_space name is) same in
    c.in_err-topic.ensures.none refl (subst IsName (sym split.0) is)

pub returns-clause-only : goal.returns-clause-only
returns-clause-only c name last is same =
    let split = at_space _ name last (Some (c.in_ok-name.name, c.in_ok-name.last)) c.in_ok-name.ensures.cases (topic_space name is) same in
    (sym split.0 ∙ sym c.in_ok-topic.ensures.same, sym split.1)
