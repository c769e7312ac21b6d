-- Receives in a row, through a port.
use Rattle.std.proofs.Common.{◌≡◌, ℕ, List, [], ◌∷◌, length, drop, refl, ap, ◌∙◌, subst}
use Rattle.std.specs.Prelude.{⊤}
use Rattle.std.proofs.Math.Seq.{drop-append_seam}
use Rattle.bcast_model.specs.declared.run.Call.{Call}
use Rattle.bcast_model.specs.declared.run.Reply.{Reply}
use Rattle.bcast_model.specs.Words.{Answers, IsPossible, View}
use Rattle.bcast_model.proofs.Answers.{possible}
use Rattle.bcast_core.specs.Batch.{ReceivesEach, ReceivesInto}
use Rattle.async_broadcast.specs.Batch.{Receives}
use Rattle.async_broadcast.specs.Ports.{Gives}

module _ {K T : Type 0} (is_clone : T → T → Type 0) (learns : K → Call T → Reply T → K → Type 0) (key : ℕ) where
  -- the replies of receives in a row are possible ones, and their caller learned of each
  abbrev pub Possible : K → Call T → Reply T → K → Type 0
  Possible before call reply after = IsPossible is_clone call reply × learns before call reply after

  each_possible : (old new : View T) (before after : K) (given : List T) → ReceivesEach (Answers is_clone) key old given new → ReceivesEach learns key before given after → ReceivesEach Possible key before given after
  each_possible old new before after [] received learned = learned
  each_possible old new before after (msg ∷ given) received learned =
      (learned.0, (possible refl received.1, learned.1), each_possible received.0 new learned.0 after given received.2 learned.2)

  pub into_possible : {old new : View T} {before after : K} {items longer : List T} {count : ℕ} (list : List T) → ReceivesInto (Answers is_clone) key old items count longer new
      → list ≡ drop (length items) longer → ReceivesEach learns key before list after → ReceivesInto Possible key before items count longer after
  into_possible {old = old} {new = new} {before = before} {after = after} {items = items} list received same learned = record {
    given = received.given;
    counted = received.counted;
    put = received.put;
    each = each_possible old new before after received.given received.each (subst (λ l. ReceivesEach learns key before l after) (same ∙ ap (drop (length items)) received.put ∙ drop-append_seam items received.given) learned);
  }

-- who learns nothing of calls learns so of each
pub each_unlearned : {T : Type 0} (key : ℕ) (given : List T) → ReceivesEach (λ (before : Unit {0}) call reply (after : Unit {0}). ⊤) key tt given tt
each_unlearned key [] = refl
each_unlearned key (msg ∷ given) = (tt, tt, each_unlearned key given)

-- receives in a row of which less is said
pub each_weaker : {S T : Type 0} (Makes Says : S → Call T → Reply T → S → Type 0) (says : (old new : S) (call : Call T) (reply : Reply T) → Makes old call reply new → Says old call reply new) (key : ℕ) (old new : S) (given : List T) → ReceivesEach Makes key old given new → ReceivesEach Says key old given new
each_weaker Makes Says says key old new [] each = each
each_weaker Makes Says says key old new (msg ∷ given) each = (each.0, says _ _ _ _ each.1, each_weaker Makes Says says key each.0 new given each.2)

-- what a port gave to a caller that learns nothing
pub into_gave : {P T : Type 0} (gave : P → Call T → Reply T → Type 0) (learns : Unit {0} → Call T → Reply T → Unit {0} → Type 0) (port : P) {key count : ℕ} {before after : List T} → ReceivesInto (Gives gave learns port) key tt before count after tt → Receives (gave port) key before count after
into_gave gave learns port {key = key} r = record {
  given = r.given;
  counted = r.counted;
  put = r.put;
  each = each_weaker (Gives gave learns port) (λ old call reply new. gave port call reply) (λ old new call reply both. both.0) key tt tt r.given r.each;
}
