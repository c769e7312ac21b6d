use Rattle.std.proofs.Common.{rules, Some, sym, subst}
use Rattle.topics.specs.declared.request.Answer.TheVariants as answer
use Rattle.topics.specs.Hub.{topic_of, IsCall}
use Rattle.topics.proofs.Topics.{put_here, put_others}
use Rattle.topics.proofs.hub.Hub.call.Goals as goal

pub returns-in-Some-clause-topic : goal.returns-in-Some-clause-topic
returns-in-Some-clause-topic g c =
    let called = IsCall g.T.Clone.is_clone (Some c.args.call) (answer.Done c.step.result) in
    let put = put_here c.args.name.now c.args.self.now.topics (c.get_mut.follows.lender c.step.new.inner) c.step.new.inner ((c.get_mut.follows.holds c.step.new.inner).3 (search rules)) in
    subst (called (topic_of c.args.self.now c.args.name.now)) (sym put) (subst (λ old. called old (Some c.step.new.inner)) c.in-Some.ensures.value c.step.ensures.answers)

pub returns-in-Some-clause-others : goal.returns-in-Some-clause-others
returns-in-Some-clause-others g c = put_others c.args.name.now c.args.self.now.topics (c.get_mut.follows.lender c.step.new.inner) c.step.new.inner ((c.get_mut.follows.holds c.step.new.inner).3 (search rules))
