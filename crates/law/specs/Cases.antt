-- Worked cases: the words that calls leave, computed on the definitions. Each segment is written down up to its allocated words.
use Rattle.std.specs.Prelude.{◌≡◌, ℕ, zero, suc, ◌-◌, ◌^◌, List, [], ◌∷◌}
use Rattle.tree.specs.Value.{bit, byte, pointer, structure, plain, composite, null, blank}
use Rattle.tree.specs.Shows.{Memory}
use Rattle.tree.specs.Words.{word}
use Rattle.tree.specs.Decode.{decode}
use Rattle.table.specs.Segments.{Segment, Table}
use Rattle.table.specs.Placing.{room, Outcome, got, no_space}
use Rattle.law.specs.Calls.{Edit, init_struct, init_list, init_rows, get_struct, get_rows, text, clear, write, field, row, item, Call, refused, nowhere, value, sizes}
use Rattle.law.specs.Machine.{fine, wrong, judge, effect}
use Rattle.law.specs.Reads.{look, number, shape}
use Rattle.law.specs.Exact.{Written, call_outcome}

abbrev pub seg : (allocated capacity : ℕ) → Segment
seg a c = record { allocated = a; capacity = c }

-- ## Calls

abbrev pub at_root : Edit → Call
at_root e = record { path = []; edit = e }

-- in pointer j of the root struct
abbrev pub in_pointer : ℕ → Edit → Call
in_pointer j e = record { path = record { kind = 0; element = 0; pointer_number = j } ∷ []; edit = e }

-- in element i of a root that is a list of pointers
abbrev pub in_element : ℕ → Edit → Call
in_element i e = record { path = record { kind = 1; element = i; pointer_number = 0 } ∷ []; edit = e }

-- ## What is seen of an outcome

-- f 0, .., f (n - 1)
abbrev pub listed : (n : ℕ) → (ℕ → ℕ) → List ℕ
listed zero f = []
listed (suc n) f = f 0 ∷ listed n (λ i. f (suc i))

-- the allocated words of the segments from g on
abbrev pub allocated_words : Table → Memory → (g : ℕ) → List (List ℕ)
allocated_words [] H g = []
allocated_words (s ∷ t) H g = listed s.allocated (H g) ∷ allocated_words t H (suc g)

pub data Seen : Type 0 where
  -- the allocated words of each segment, the minima that were granted, and the pair
  left : (words : List (List ℕ)) → (minima : List ℕ) → (pair : ℕ × ℕ) → Seen
  -- no space, after these grants, for the minimum
  short : (minima : List ℕ) → (minimum : ℕ) → Seen

abbrev pub seen : Outcome Written → Seen
seen (got r x) = left (allocated_words r.table x.words 0) r.asked x.pair
seen (no_space r m) = short r.asked m

-- the call on a draft with these segments and this table, where grants are answered by these capacities
abbrev pub after : List (List ℕ) → Table → Call → (met : List ℕ) → Seen
after m t c met = seen (call_outcome (word m) (decode 64 (word m) 0 0) (room t met) c)

-- ## The cases

pub record WorkedCases : Type 0 where
  -- 1. over a slab of step 16, which offers 16 for 1: a struct of 1 data word and 2 pointers; the next word is 4
  pub a_struct : after [] [] (at_root (init_struct 1 2)) (16 ∷ []) ≡ left ((0x0002000100000000 ∷ 0 ∷ 0 ∷ 0 ∷ []) ∷ []) (1 ∷ []) (0, 1)
  -- 2. then the text "Rook" in its first pointer
  pub a_text : after ((0x0002000100000000 ∷ 0 ∷ 0 ∷ 0 ∷ []) ∷ []) (seg 4 16 ∷ []) (in_pointer 0 (text (82 ∷ 111 ∷ 111 ∷ 107 ∷ []))) [] ≡
      left ((0x0002000100000000 ∷ 0 ∷ 0x0000002A00000005 ∷ 0 ∷ 0x000000006B6F6F52 ∷ []) ∷ []) [] (0, 4)
  -- 3. the longest list of elements without bits, and one more
  pub longest_list : after [] [] (at_root (init_list 0 (2 ^ 29 - 1))) (16 ∷ []) ≡ left ((0xFFFFFFF800000001 ∷ []) ∷ []) (1 ∷ []) (0, 1)
  pub longest_is_fine : judge null (at_root (init_list 0 (2 ^ 29 - 1))) ≡ fine
  pub one_longer : judge null (at_root (init_list 0 (2 ^ 29))) ≡ wrong (refused 10)
  -- 4. an empty struct is its slot
  pub an_empty_struct : after [] [] (at_root (init_struct 0 0)) (16 ∷ []) ≡ left ((0x00000000FFFFFFFC ∷ []) ∷ []) (1 ∷ []) (0, 0)
  -- 5. over a slab of step 1: the struct stands in another segment, behind a pad
  pub behind_a_pad : after [] [] (at_root (init_struct 1 0)) (1 ∷ 2 ∷ []) ≡
      left ((0x0000000100000002 ∷ []) ∷ (0x0000000100000000 ∷ 0 ∷ []) ∷ []) (1 ∷ 2 ∷ []) (1, 1)
  -- 6. then it is made larger: the old words and the old pad are zero
  pub made_larger : after ((0x0000000100000002 ∷ []) ∷ (0x0000000100000000 ∷ 0 ∷ []) ∷ []) (seg 1 1 ∷ seg 2 2 ∷ []) (at_root (get_struct 2 0)) (3 ∷ []) ≡
      left ((0x0000000200000002 ∷ []) ∷ (0 ∷ 0 ∷ []) ∷ (0x0000000200000000 ∷ 0 ∷ 0 ∷ []) ∷ []) (3 ∷ []) (2, 1)
  -- 7. over a slab of step 4: a struct with a child in a full segment is made larger, and its child is reached by a double far pointer
  pub a_parent : after [] [] (at_root (init_struct 0 1)) (4 ∷ []) ≡ left ((0x0001000000000000 ∷ 0 ∷ []) ∷ []) (1 ∷ []) (0, 1)
  pub a_child : after ((0x0001000000000000 ∷ 0 ∷ []) ∷ []) (seg 2 4 ∷ []) (in_pointer 0 (init_struct 2 0)) [] ≡
      left ((0x0001000000000000 ∷ 0x0000000200000000 ∷ 0 ∷ 0 ∷ []) ∷ []) [] (0, 2)
  pub double_far : after ((0x0001000000000000 ∷ 0x0000000200000000 ∷ 0 ∷ 0 ∷ []) ∷ []) (seg 4 4 ∷ []) (at_root (get_struct 1 1)) (4 ∷ 4 ∷ []) ≡
      left
      ((0x0000000100000002 ∷ 0 ∷ 0 ∷ 0 ∷ []) ∷ (0x0001000100000000 ∷ 0 ∷ 0x0000000200000006 ∷ []) ∷ (0x0000000000000012 ∷ 0x0000000200000000 ∷ []) ∷ [])
      (3 ∷ 2 ∷ [])
      (1, 1)
  -- and if the second segment is not granted
  pub no_second_segment : after ((0x0001000000000000 ∷ 0x0000000200000000 ∷ 0 ∷ 0 ∷ []) ∷ []) (seg 4 4 ∷ []) (at_root (get_struct 1 1)) (4 ∷ []) ≡
      short (3 ∷ []) 2
  -- 8. two bytes, 7 and 9, are opened as rows of at least one pointer
  pub two_bytes : after [] [] (at_root (init_list 2 2)) (16 ∷ []) ≡ left ((0x0000001200000001 ∷ 0 ∷ []) ∷ []) (1 ∷ []) (0, 1)
  pub first_byte : after ((0x0000001200000001 ∷ 0 ∷ []) ∷ []) (seg 2 16 ∷ []) (at_root (write item 2 0 7)) [] ≡
      left ((0x0000001200000001 ∷ 7 ∷ []) ∷ []) [] (0, 1)
  pub second_byte : after ((0x0000001200000001 ∷ 7 ∷ []) ∷ []) (seg 2 16 ∷ []) (at_root (write item 2 1 9)) [] ≡
      left ((0x0000001200000001 ∷ 0x0907 ∷ []) ∷ []) [] (0, 1)
  pub bytes_to_rows : after ((0x0000001200000001 ∷ 0x0907 ∷ []) ∷ []) (seg 2 16 ∷ []) (at_root (get_rows 0 1)) [] ≡
      left ((0x0000002700000005 ∷ 0 ∷ 0x0001000100000008 ∷ 7 ∷ 0 ∷ 9 ∷ 0 ∷ []) ∷ []) [] (0, 2)
  -- 9. a list of bits, even without elements, is not opened as rows
  pub bit_list : judge (blank (plain bit 0)) (at_root (get_rows 0 0)) ≡ wrong (refused 8)
  -- ## More

  -- an empty struct moves to another segment: by a pad in its own, which leads to its old slot, and by two pad words elsewhere
  pub empty_over_a_pad : after ((0x0001000000000000 ∷ 0x00000000FFFFFFFC ∷ []) ∷ []) (seg 2 3 ∷ []) (at_root (get_struct 1 1)) (3 ∷ []) ≡
      left ((0x0000000100000002 ∷ 0 ∷ 0x00000000FFFFFFF8 ∷ []) ∷ (0x0001000100000000 ∷ 0 ∷ 0x0000000000000012 ∷ []) ∷ []) (3 ∷ []) (1, 1)
  pub empty_over_two : after ((0x0001000000000000 ∷ 0x00000000FFFFFFFC ∷ []) ∷ []) (seg 2 2 ∷ []) (at_root (get_struct 1 1)) (5 ∷ []) ≡
      left ((0x0000000100000002 ∷ 0 ∷ []) ∷ (0x0001000100000000 ∷ 0 ∷ 0x000000010000001E ∷ 0x000000000000000A ∷ 0 ∷ []) ∷ []) (3 ∷ []) (1, 1)
  -- a list of two pointers, the second to a byte list, is opened as rows of one data word: the child stays and its pointer is aimed anew
  pub pointers_to_rows : after ((0x0000001600000001 ∷ 0 ∷ 0x0000000A00000001 ∷ 0x61 ∷ []) ∷ []) (seg 4 16 ∷ []) (at_root (get_rows 1 0)) [] ≡
      left ((0x000000270000000D ∷ 0 ∷ 0 ∷ 0x61 ∷ 0x0001000100000008 ∷ 0 ∷ 0 ∷ 0 ∷ 0x0000000AFFFFFFE9 ∷ []) ∷ []) [] (0, 4)
  -- two children of a struct stay where they are when it is made larger
  pub two_children_stay : after ((0x0002000000000000 ∷ 0x0000000A00000005 ∷ 0x0000000A00000005 ∷ 0x61 ∷ 0x62 ∷ []) ∷ []) (seg 5 16 ∷ []) (at_root (get_struct 1 2)) [] ≡
      left ((0x0002000100000010 ∷ 0 ∷ 0 ∷ 0x61 ∷ 0x62 ∷ 0 ∷ 0x0000000AFFFFFFF1 ∷ 0x0000000AFFFFFFF1 ∷ []) ∷ []) [] (0, 5)
  -- a value is replaced: its words are zero, and stay allocated
  pub replaced : after ((0x0000000100000000 ∷ 5 ∷ []) ∷ []) (seg 2 16 ∷ []) (at_root (init_struct 0 1)) [] ≡
      left ((0x0001000000000004 ∷ 0 ∷ 0 ∷ []) ∷ []) [] (0, 2)
  pub cleared : after ((0x0000000100000000 ∷ 5 ∷ []) ∷ []) (seg 2 16 ∷ []) (at_root clear) [] ≡ left ((0 ∷ 0 ∷ []) ∷ []) [] (0, 0)
  -- a field of 32 bits, and one that has no bits
  pub field_write : after ((0x0000000100000000 ∷ 5 ∷ []) ∷ []) (seg 2 16 ∷ []) (at_root (write field 4 1 7)) [] ≡
      left ((0x0000000100000000 ∷ 0x0000000700000005 ∷ []) ∷ []) [] (0, 1)
  pub unit_field : judge (blank (structure 0 0)) (at_root (write field 0 99 0)) ≡ fine
  pub last_bit : judge (blank (structure 1 0)) (at_root (write field 1 63 1)) ≡ fine
  pub past_last_bit : judge (blank (structure 1 0)) (at_root (write field 1 64 1)) ≡ wrong (refused 9)
  -- rulings in their order
  pub code_before_size : judge null (at_root (init_list 7 (2 ^ 29))) ≡ wrong (refused 3)
  pub most_rows : judge null (at_root (init_rows (2 ^ 30 - 1) 0 0)) ≡ fine
  pub too_many_rows : judge null (at_root (init_rows (2 ^ 30) 0 0)) ≡ wrong (refused 10)
  pub no_step : judge (blank (structure 0 1)) (in_pointer 1 clear) ≡ wrong (nowhere 0)
  pub row_of_bytes : judge (blank (plain byte 3)) (at_root (write (row 0) 2 0 1)) ≡ wrong (refused 9)
  pub rows_of_pointers : effect (get_rows 0 0) (blank (plain pointer 2)) ≡ blank (composite 2 0 1)
  -- reads
  pub read_field : look (decode 64 (word ((0x0000000100000000 ∷ 0x0000000700000005 ∷ []) ∷ [])) 0 0) [] (number field 4 1) ≡ value 7
  pub read_shape : look (blank (structure 1 2)) [] shape ≡ sizes (structure 1 2)
  pub read_null : look null [] (number field 4 1) ≡ refused 4
