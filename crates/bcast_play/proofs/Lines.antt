-- Lemmas of lines: the names in them, and the reply that is written.
use Rattle.std.proofs.Common.{◌≡◌, ◌≢◌, ⊎_elim, arith, List, ℕ, Bool, true, false, Option, Some, None, Result, Ok, Err, OnOk, IfSome, IsSome, cond, refl, sym, is_some, option_map, true≢false}
use Rattle.std.proofs.lemmas.List.Elements.{All-weaker}
use Rattle.bcast_text.proofs.Spaced.{Lacks}
use Rattle.topics.specs.Name.{IsName, IsNameByte}
use Rattle.topics.specs.Request.{IsAnswerTo}
use Rattle.topics.specs.declared.request.Answer.TheVariants as answer
use Rattle.bcast_model.specs.declared.run.Call.{Call}

-- a topic's name has no space
pub topic_space : (word : List ℕ) → IsName word → Lacks 32 word
topic_space word is =
    All-weaker IsNameByte (λ c. c ≢ 32) (λ c named e. ⊎_elim (λ h. omega (arith, h, e)) (λ more. ⊎_elim (λ h. omega (arith, h, e)) (λ h. omega (arith, h, e)) more) named) word is.2

pub map_cond : {X Y : Type 0} (f : X → Y) (b : Bool) (o p : Option X) → option_map f (cond b o p) ≡ cond b (option_map f o) (option_map f p)
map_cond f b o p = grind arith

pub map_none : {X Y : Type 0} (f : X → Y) (o : Option X) → is_some o ≡ false → option_map f o ≡ None
map_none f None absent = refl
map_none f (Some x) absent = absurd (true≢false absent)

pub map_some : {X Y : Type 0} (f : X → Y) (o : Option X) → is_some o ≡ true → option_map f o ≢ None
map_some f None used none = true≢false (sym used)
map_some f (Some x) used none = let is = none in absurd (cc)

-- a valid name is not answered by `BadName`
pub named_answer : {T : Type 0} (is_open : Bool) (asked : Option (Call T)) → IsAnswerTo is_open asked answer.BadName → ⊥
named_answer is_open asked is = grind arith

-- a reply that has an answer is written
pub answered : {X F : Type 0} (r : Result X F) (o : Option (List ℕ)) (P : List ℕ → Type 0) (Q : Type 0)
    → OnOk r (IfSome o P) → OnOk r (IsSome o) → ((text : List ℕ) → o ≡ Some text → P text → Q) → OnOk r Q
answered (Err x) o P Q text some to = tt
answered (Ok x) None P Q text some to = absurd (true≢false (sym some))
answered (Ok x) (Some t) P Q text some to = to t refl text
