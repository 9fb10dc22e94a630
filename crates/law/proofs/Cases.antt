-- Each case is computed.
use Rattle.std.proofs.Common.{refl}
use Rattle.tree.specs.Value.{change}
use Rattle.tree.specs.Words.{word}
use Rattle.tree.specs.Shows.{land, within, total}
use Rattle.tree.specs.Decode.{shape_of, decode}
use Rattle.table.specs.Placing.{anywhere, place, pad, root}
use Rattle.law.specs.Machine.{judge, effect}
use Rattle.law.specs.Reads.{look}
use Rattle.law.specs.Exact.{moved, call_outcome}
use Rattle.law.specs.Cases.{WorkedCases}

pub worked : WorkedCases
unfolding change word land within total shape_of decode anywhere place pad root judge effect look moved call_outcome
worked = record {
  a_struct = refl;
  a_text = refl;
  longest_list = refl;
  longest_is_fine = refl;
  one_longer = refl;
  an_empty_struct = refl;
  behind_a_pad = refl;
  made_larger = refl;
  a_parent = refl;
  a_child = refl;
  double_far = refl;
  no_second_segment = refl;
  two_bytes = refl;
  first_byte = refl;
  second_byte = refl;
  bytes_to_rows = refl;
  bit_list = refl;
  empty_over_a_pad = refl;
  empty_over_two = refl;
  pointers_to_rows = refl;
  two_children_stay = refl;
  replaced = refl;
  cleared = refl;
  field_write = refl;
  unit_field = refl;
  last_bit = refl;
  past_last_bit = refl;
  code_before_size = refl;
  most_rows = refl;
  too_many_rows = refl;
  no_step = refl;
  row_of_bytes = refl;
  rows_of_pointers = refl;
  read_field = refl;
  read_shape = refl;
  read_null = refl;
}
