-- All that is there is given, or `try_recv` says why there is none.
use Rattle.std.proofs.Common.{◌≡◌, ◌++◌, inl, inr, ◌<◌, ◌≤◌, ◌+◌, min, length, ap, ◌∙◌, subst, arith, vec_len, vec_capacity}
use Rattle.std.proofs.lemmas.Result.{on_ok_weaker}
use Rattle.bcast_model.specs.Words.{Answers, NoClone, missed, unread}
use Rattle.bcast_model.specs.declared.run.Call.TheVariants as call
use Rattle.bcast_model.specs.declared.run.Reply.TheVariants as reply
use Rattle.bcast_model.proofs.Clones.{answers_exact}
use Rattle.bcast_text.specs.ScriptAnswer.{answer_of, batch_text}
use Rattle.bcast_play.proofs.Lines.{answered}
use Rattle.bcast_play.proofs.Batches.{batch_there, each_exact, never_refused, given_none, none_given}
use Rattle.bcast_play.proofs.channel.Channel.receive_many.Goals as goal
use Rattle.bcast_play.proofs.channel.Channel.receive_many.Goals.{After-receive_many}

-- if the receiver missed none, all is given
all : (g : _) (c : After-receive_many g) → missed c.args.self.now.inner c.args.key ≡ 0 → c.receive_many.result ≡ min c.args.limit (unread c.args.self.now.inner c.args.key)
all g c none =
    let room : vec_len c.reserve.new.self + c.min-limit.result ≤ vec_capacity c.reserve.new.self = omega (arith, c.in_ok-reserve.ensures.ok, c.in_ok-reserve.ensures.len) in
    elim (c.receive_many.ensures.sure none room) [
      | inl is ↦ omega (arith, is, c.min-limit.ensures, c.unread.ensures)
      | inr refused ↦ absurd (never_refused c.receive_many.new.self c.args.key refused)
    ]

pub returns-then-receive_many-gt0-clause-ok : goal.returns-then-receive_many-gt0-clause-ok
returns-then-receive_many-gt0-clause-ok g c =
    let r = c.receive_many.ensures.received in
    let before = c.reserve.ensures.items ∙ c.new-msgs.ensures.items in
    let given : c.as_slice.result.now ≡ r.given = c.as_slice.ensures.value ∙ r.put ∙ ap (λ items. items ++ r.given) before in
    let some : 0 < length r.given = omega (arith, r.counted, c.if-receive_many-gt0.true) in
    let each = each_exact (λ msg copy e. e) c.args.key _ _ r.given r.each in
    let here = (goal.at.returns-then-receive_many-gt0-clause-ok g c).After-receive_many in
    on_ok_weaker c.answer_batch.result (λ written. (
      batch_text c.as_slice.result.now,
      inl (record {
        msgs = r.given;
        some = some;
        all = r.counted ∙ all g here (batch_there c.args.key _ _ r.given some each);
        each = each;
        spelt = ap batch_text given;
      }),
      written,
    )) c.answer_batch.ensures.text

pub returns-clause-ok : goal.returns-clause-ok
returns-clause-ok g c =
    let r = c.receive_many.ensures.received in
    let none : c.receive_many.result ≡ 0 = omega (arith, c.if-receive_many-gt0.false) in
    let same = none_given _ c.args.key _ _ r.given (r.counted ∙ none) r.each in
    let here = (goal.at.returns-clause-ok g c).After-receive_many in
    let answers = subst (λ v. Answers NoClone v (call.TryRecv c.args.key) (reply.TryRecv c.try_recv.result) c.try_recv.new.self) same (answers_exact (λ msg copy e. e) c.try_recv.ensures.answers) in
    let never : (missed c.args.self.now.inner c.args.key ≡ 0) × (0 < unread c.args.self.now.inner c.args.key) → ⊥ = λ there. (let count = all g here there.0 in omega (arith, count, none, there.1, c.requires)) in
    answered c.answer.result (answer_of (reply.TryRecv c.try_recv.result)) _ _ c.answer.ensures.text c.answer.ensures.answered (λ text spelt written.
    (text, inr (given_none c.try_recv.result answers never spelt), written))
