-- Kinds by their names, and the values of each kind as text.
use Rattle.std.specs.Prelude.{◌≡◌, ℕ, ◌^◌, ◌<◌, List, ℤ, Some, None, Ok, Err, codes, Option, Result, ◌==◌, ◌≢◌}
use Rattle.number.specs.declared.decimal.NumberFault.{NumberFault}
use Rattle.number.specs.declared.kind.Kind.{Kind}
use Rattle.number.specs.declared.kind.Kind.TheVariants as kind
use Rattle.number.specs.declared.kind.Value.{Value}
use Rattle.number.specs.declared.kind.Value.TheVariants as value
use Rattle.number.specs.Numbers.{Numeral, worth, Signed}

abbrev pub kind_name : Kind → List ℕ
kind_name kind.Bool = codes "bool"
kind_name kind.Void = codes "void"
kind_name kind.U8 = codes "u8"
kind_name kind.U16 = codes "u16"
kind_name kind.U32 = codes "u32"
kind_name kind.U64 = codes "u64"
kind_name kind.I32 = codes "i32"

abbrev pub kind_of : Value → Kind
kind_of (value.Bool b) = kind.Bool
kind_of value.Void = kind.Void
kind_of (value.U8 n) = kind.U8
kind_of (value.U16 n) = kind.U16
kind_of (value.U32 n) = kind.U32
kind_of (value.U64 n) = kind.U64
kind_of (value.I32 n) = kind.I32

-- a reader of kinds answers the kind that has the name, and none just where no kind has it
abbrev pub ReadsKind : List ℕ → Option Kind → Type 0
ReadsKind bs (Some k) = bs ≡ kind_name k
ReadsKind bs None = (k : Kind) → bs ≢ kind_name k

abbrev pub Below : ℕ → List ℕ → Type 0
Below top bs = Numeral bs × (worth bs < top)

-- bs is the text of the value v of that kind: 0 or 1 for a bool, 0 for nothing, a number in range for the others
abbrev pub ValueText : Kind → List ℕ → Value → Type 0
ValueText kind.Bool bs v = Below 2 bs × (v ≡ value.Bool (worth bs == 1))
ValueText kind.Void bs v = Below 1 bs × (v ≡ value.Void)
ValueText kind.U8 bs v = Below (2 ^ 8) bs × (v ≡ value.U8 (worth bs))
ValueText kind.U16 bs v = Below (2 ^ 16) bs × (v ≡ value.U16 (worth bs))
ValueText kind.U32 bs v = Below (2 ^ 32) bs × (v ≡ value.U32 (worth bs))
ValueText kind.U64 bs v = Below (2 ^ 64) bs × (v ≡ value.U64 (worth bs))
ValueText kind.I32 bs v = (z : ℤ) × Signed bs z × (v ≡ value.I32 z)

abbrev pub ReadsValue : Kind → List ℕ → Result Value NumberFault → Type 0
ReadsValue k bs (Ok v) = ValueText k bs v
ReadsValue k bs (Err e) = (v : Value) → ValueText k bs v → ⊥
