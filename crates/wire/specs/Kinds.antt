-- The numbers of the kinds of pointer words.
use Rattle.std.specs.Prelude.{ℕ}
use Rattle.wire.specs.declared.pointers.WirePointerKind.{WirePointerKind}
use Rattle.wire.specs.declared.pointers.WirePointerKind.TheVariants.{Struct, List, Far, Other}

abbrev pub kind_number : WirePointerKind → ℕ
kind_number Struct = 0
kind_number List = 1
kind_number Far = 2
kind_number Other = 3
