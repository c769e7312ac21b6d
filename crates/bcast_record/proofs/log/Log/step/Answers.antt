use Rattle.std.proofs.Common.{◌≡◌, [], ◌∷◌, ◌++◌, Some, suc, length, slice_get, sym, ap, subst, ◌∙◌, arith}
use Rattle.bcast_record.specs.declared.entry.Entry.{Entry}
use Rattle.bcast_record.specs.declared.entry.Note.TheVariants as note
use Rattle.bcast_record.specs.Recording.{notes_of}
use Rattle.bcast_record.proofs.Copies.{legal_list, same_entry}
use Rattle.bcast_record.proofs.Entries.{replays_push, may_run_again_push, notes_of-push, last_note}
use Rattle.bcast_record.proofs.log.Log.step.Goals as goal

-- what callers rely on, before what the code itself needs
pub returns-clause-run : goal.returns-clause-run
returns-clause-run g c =
    let opening = c.self.inside.opening in
    let entries = c.self.inside.entries.items in
    let entry : Entry g.row.T.Denot = record { seat = c.number.result; call = c.args.call; reply = c.step-reply.result } in
    let stored : c.into_entries-stored.result.0 ≡ entry = same_entry c.into_entries-stored.ensures.stored c.in-Some.ensures.stored in
    (replays_push opening entries c.push_reserved.new.self.items entry (c.push_reserved.ensures.items ∙ (λ i. c.of.ensures.items i ++ stored i ∷ []))
    c.self.invariant.0 c.step-reply.ensures.answers).run

pub invariant_of-self : goal.invariant_of-self
invariant_of-self g c =
    let before = c.self.invariant in
    let items = c.of.ensures.items in (
      rw items before.0,
      before.1 ∙ ap (notes_of c.self.inside.opening) (sym items),
      before.2 ∙ sym c.of.ensures.len,
      before.3,
      rw items before.4,
    )

pub into_entries-stored-requires : goal.into_entries-stored-requires
into_entries-stored-requires g c =
    rw c.in-Some.ensures.list (legal_list g.T.Clone.is_clone c.self.inside.inner c.args.call c.step-reply.result c.step-reply.ensures.answers.legal)

pub invariant_of-result : goal.invariant_of-result
invariant_of-result g c =
    let opening = c.self.inside.opening in
    let entries = c.self.inside.entries.items in
    let entry : Entry g.row.T.Denot = record { seat = c.number.result; call = c.args.call; reply = c.step-reply.result } in
    let given : c.into_entries-stored.result.1 ≡ entry = same_entry c.into_entries-stored.ensures.given c.in-Some.ensures.given in
    let place : length entries ≡ c.len-place.result = omega (arith, c.len-place.ensures, c.of.ensures.len, c.self.inside.entries.ok) in
    let notes : c.append.new.known ≡ notes_of opening (entries ++ entry ∷ []) =
    c.append.ensures.knows ∙ c.append.ensures.appended ∙ (λ i. c.self.invariant.1 i ++ note.Answered (given i) ∷ [])
    ∙ sym (notes_of-push opening entries entry) in
    subst (λ n. slice_get c.append.new.known (suc n) ≡ Some (note.Answered c.into_entries-stored.result.1)) place
    (ap (λ ns. slice_get ns (suc (length entries))) notes ∙ last_note opening entries entry ∙ ap (λ e. Some (note.Answered e)) (sym given))

pub invariant_of-self-2 : goal.invariant_of-self-2
invariant_of-self-2 g c =
    let before = c.self.invariant in
    let opening = c.self.inside.opening in
    let entries = c.self.inside.entries.items in
    let entry : Entry g.row.T.Denot = record { seat = c.number.result; call = c.args.call; reply = c.step-reply.result } in
    let stored : c.into_entries-stored.result.0 ≡ entry = same_entry c.into_entries-stored.ensures.stored c.in-Some.ensures.stored in
    let given : c.into_entries-stored.result.1 ≡ entry = same_entry c.into_entries-stored.ensures.given c.in-Some.ensures.given in
    let pushed : c.push_reserved.new.self.items ≡ entries ++ entry ∷ [] =
    c.push_reserved.ensures.items ∙ (λ i. c.of.ensures.items i ++ stored i ∷ []) in (
      replays_push opening entries c.push_reserved.new.self.items entry pushed before.0 c.step-reply.ensures.answers,
      c.append.ensures.appended ∙ (λ i. before.1 i ++ note.Answered (given i) ∷ []) ∙ sym (notes_of-push opening entries entry) ∙ ap (notes_of opening) (sym pushed),
      omega (arith, c.add_call.ensures.calls, before.2, c.push_reserved.ensures.len, c.of.ensures.len),
      before.3,
      may_run_again_push opening entries c.push_reserved.new.self.items entry pushed before.4 c.requires,
    )
