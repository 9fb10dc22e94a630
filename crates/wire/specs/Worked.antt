-- Words of small messages, worked out by hand from the encoding, against the definitions.
use Rattle.std.specs.Prelude.{◌≡◌, ℕ, ◌-◌, ◌^◌, Ok, Err}
use Rattle.wire.specs.declared.sizes.TooLarge.TheVariants.{Elements}
use Rattle.wire.specs.Pointers.{pointer_target, struct_pointer, list_pointer, struct_list_tag, single_far, double_far, empty_struct, unaimed}
use Rattle.wire.specs.Sizes.{list_words, sized_list}
use Rattle.wire.specs.Elements.{element_put}

-- element i of a list of bytes becomes b
abbrev pub byte : (word i b : ℕ) → ℕ
byte word i b = element_put word 2 i b

pub record WorkedWords : Type 0 where
  -- the root, word 0, of a struct of 1 data word and 2 pointers in word 1
  pub root_of_a_struct : struct_pointer 0 1 1 2 ≡ 0x0002000100000000
  -- the name "Rook" in pointer 0 of that struct, word 2: a list of 5 bytes in word 4
  pub pointer_to_a_name : list_pointer 2 4 2 5 ≡ 0x0000002A00000005
  pub letters_of_a_name : byte (byte (byte (byte 0 0 82) 1 111) 2 111) 3 107 ≡ 0x000000006B6F6F52
  pub words_of_a_name : list_words 2 5 ≡ 1
  -- the longest list of elements without bits, and one more
  pub longest_list : sized_list 0 (2 ^ 29 - 1) ≡ Ok 0
  pub longer_list : sized_list 0 (2 ^ 29) ≡ Err Elements
  pub slot_of_an_empty_struct : empty_struct ≡ 0x00000000FFFFFFFC
  -- a struct of 1 data word in segment 1 behind a pad, then rebuilt in segment 2
  pub far_root : single_far 1 0 ≡ 0x0000000100000002
  pub pad_of_it : struct_pointer 0 1 1 0 ≡ 0x0000000100000000
  pub far_root_again : single_far 2 0 ≡ 0x0000000200000002
  -- a child in word 2 of segment 0, moved to a slot in segment 1 by a double pad in segment 2
  pub slot_of_the_child : double_far 2 0 ≡ 0x0000000200000006
  pub first_pad_word : single_far 0 2 ≡ 0x0000000000000012
  pub second_pad_word : unaimed (struct_pointer 1 2 2 0) ≡ 0x0000000200000000
  -- two bytes opened as rows of 1 data word and 1 pointer in words 2 to 6
  pub root_of_rows : list_pointer 0 2 7 4 ≡ 0x0000002700000005
  pub tag_of_rows : struct_list_tag 2 1 1 ≡ 0x0001000100000008
  -- a pointer back: from word 9 to word 3
  pub backward : pointer_target 9 (struct_pointer 9 3 1 0) ≡ 3
  pub backward_word : struct_pointer 9 3 1 0 ≡ 0x00000001FFFFFFE4
