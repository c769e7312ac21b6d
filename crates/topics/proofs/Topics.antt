-- A topic that is put under its name, and its part of the calls as a run: how it begins, and one more call.
use Rattle.std.proofs.Common.{◌≡◌, ℕ, List, Some, Ok, refl, sym, ap, ◌∙◌, subst, cond, ◌≢◌, bytes_eq, string_bytes, string_eq, String, [], ◌∷◌, ◌++◌, map, Option, None, arith}
use Rattle.std.proofs.lemmas.Bool.{false_from_ne_true}
use Rattle.std.proofs.lemmas.Map.Text.{hash_map_updates_text}
use Rattle.std.proofs.lemmas.List.{map_push}
use Rattle.std.proofs.lemmas.Option.{same_Some}
use Rattle.std.specs.Cmp.Lexicographic.{bytes_decides}
use Rattle.std.specs.HashMap.{HashMap, UpdatesBy, get_by_text}
use Rattle.bcast_model.specs.declared.run.Call.TheVariants as call
use Rattle.bcast_model.specs.declared.run.Reply.TheVariants as reply
use Rattle.bcast_model.specs.declared.run.Call.{Call}
use Rattle.bcast_model.specs.declared.run.Reply.{Reply}
use Rattle.bcast_model.specs.Words.{NoClone, View, opening, Answers, Represents, History, view_of}
use Rattle.bcast_model.specs.Words.{Legal, next, end_of_run, IsValid}
use Rattle.bcast_model.proofs.Clones.{answers_any}
use Rattle.bcast_model.proofs.Opening.{opening_valid}
use Rattle.bcast_core.proofs.Does.{valid_shown}
use Rattle.bcast_core.proofs.Runs.{run_more, end_more}
use Rattle.topics.specs.Hub.{IsNew}
use Rattle.topics.specs.Part.{Called, IsRunOf, IsTopic}

module _ {Y X S : Type 0} (name : List ℕ) (m n : HashMap (String Y) X S) (topic : X) (puts : UpdatesBy string_eq (λ k. bytes_eq name (string_bytes k)) m n (Some topic)) where
  pub put_here : get_by_text n name ≡ Some topic
  put_here = hash_map_updates_text name m n (Some topic) puts name ∙ ap (λ b. cond b (Some topic) (get_by_text m name)) ((bytes_decides name name).1 refl)

  pub put_others : (other : List ℕ) → other ≢ name → get_by_text n other ≡ get_by_text m other
  put_others other differs = hash_map_updates_text name m n (Some topic) puts other ∙ ap (λ b. cond b (Some topic) (get_by_text m other)) (false_from_ne_true (bytes_eq name other) (λ same. differs (sym ((bytes_decides name other).0 same))))

module _ {T : Type 0} {is_clone : T → T → Type 0} {v w : View T} {capacity key : ℕ} where
  pub is_new : Answers NoClone v (call.Deactivate key) (reply.Deactivate (Ok tt)) w → Represents v (opening capacity 0 key) → IsNew is_clone capacity (Some w)
  is_new a opened = (key, answers_any (subst (λ u. Answers NoClone u (call.Deactivate key) (reply.Deactivate (Ok tt)) w) opened a))

module _ {T : Type 0} (is_clone : T → T → Type 0) where
  pub run_of_more : {h : History T} {part : List (Called T)} {before after : View T} {c : Call T} {r : Reply T} → IsRunOf is_clone h part (Some before) → Answers is_clone before c r after → IsRunOf is_clone h (part ++ (c, r) ∷ []) (Some after)
  run_of_more {h} {part} {before} {after} {c} {r} is a =
      let calls : List (Call T) = map (λ p. p.0) part in
      let replies : List (Reply T) = map (λ p. p.1) part in
      let at : before ≡ view_of (end_of_run h calls replies) = same_Some before (view_of (end_of_run h calls replies)) is.end in
      let ends : end_of_run h (calls ++ c ∷ []) (replies ++ r ∷ []) ≡ next (end_of_run h calls replies) c r = end_more is_clone h calls replies c r is.run in
      let calls' : map (λ p. p.0) (part ++ (c, r) ∷ []) ≡ calls ++ c ∷ [] = map_push (λ p. p.0) part (c, r) in
      let replies' : map (λ p. p.1) (part ++ (c, r) ∷ []) ≡ replies ++ r ∷ [] = map_push (λ p. p.1) part (c, r) in
      record {
        run = rw (calls', replies') (run_more is_clone h calls replies c r is.run (subst (λ v. Legal is_clone v c r) at a.legal));
        end = rw (calls', replies') (ap Some (a.represents (end_of_run h calls replies) is.valid at ∙ ap view_of (sym ends)));
        valid = rw (calls', replies') (subst IsValid (sym ends) (a.valid (end_of_run h calls replies) is.valid at));
      }

  pub new_run : {capacity : ℕ} {new : Option (View T)} → IsNew is_clone capacity new → IsTopic is_clone (Some capacity) [] new
  new_run {new = None} is = absurd is
  new_run {capacity} {new = Some topic} is =
      let valid = valid_shown is.1.shown in
      let fits = valid.control.room_fits in
      let some = valid.control.capacity in
      let h : History T = opening capacity 0 is.0 in
      let starts = opening_valid capacity 0 is.0 some fits (omega arith) in (
        is.0,
        record {
          run = (is.1.legal, tt);
          end = ap Some (is.1.represents h starts refl);
          valid = is.1.valid h starts refl;
        },
      )
