-- What the machine has for an `Option<u64>`.
use Rattle.std.proofs.Common.{ℕ, List, Option, refl}
use Rattle.std.proofs.option.Option.TheLaws as option_laws
use Rattle.std.specs.contracts.option.Option as option
use mir.Val.{Val}
use types.Logic.{Logic}
use seplogic.Ra.Ura.{Ura}
use denote.Enum.Declared.{row}
use denote.Enum.Laws.{Laws, val, vals, tells}
use denote.Enum.Loose.{loose_lawful}
use denote.Laws.{Is, Tells, Typed}
use denote.Param.Laws.{of_field, field_told}
use denote.Param.Shared.{copy_shared}
use denote.RattleType.{RattleType}
use denote.Struct.Field.{u64-field}
use denote.Struct.Laws.{u64-laws, u64-copy}

-- the type, as the logic has it
abbrev pub OptionU64 : RattleType
OptionU64 = row (option.the_type (u64-field).row)

abbrev laws : Laws (option.the_type (u64-field).row)
laws = option_laws.the_laws (u64-field).row (of_field u64-field u64-laws refl (copy_shared u64-field u64-copy))
    (field_told u64-field u64-laws)

-- a value, as the machine has it
abbrev pub option_val : Option ℕ → Val
option_val = val (option.the_type (u64-field).row) laws

abbrev pub option_vals : Option ℕ → List Val
option_vals = vals (option.the_type (u64-field).row) laws

-- the type tells its value
pub option_tells : Tells OptionU64 (Is OptionU64) option_vals
option_tells = tells (option.the_type (u64-field).row) laws

-- the value has the type
pub option_typed : {M : Type 1} {𝓤 : Ura M} (𝓛 : Logic 𝓤) (x : Option ℕ) → Is OptionU64 x (option_vals x)
    → Typed OptionU64.mir (option_vals x)
option_typed 𝓛 x = (loose_lawful (option.the_type (u64-field).row) (option_laws.the_loose (u64-field).row
    (of_field u64-field u64-laws refl (copy_shared u64-field u64-copy))) tt 𝓛).typed x (option_vals x)
