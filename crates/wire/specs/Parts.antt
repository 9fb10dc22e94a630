-- Made and read back: the parts that a made pointer word has.
use Rattle.std.specs.Prelude.{◌≡◌, ℕ, ◌^◌, ◌<◌}
use Rattle.wire.specs.Pointers.{high_half, pointer_kind, offset_field, pointer_target, data_words, pointer_words, list_code, list_count, far_segment, far_word, far_mark}

-- a word aimed from word p at word t leads there, if both lie below 2 ^ 29
abbrev pub Aims : (x p t : ℕ) → Type 0
Aims x p t = p < 2 ^ 29 → t < 2 ^ 29 → pointer_target p x ≡ t

pub record StructParts (x p t dw pw : ℕ) : Type 0 where
  pub kind_is : pointer_kind x ≡ 0
  pub aims : Aims x p t
  pub data_is : data_words x ≡ dw
  pub pointers_are : pointer_words x ≡ pw

pub record ListParts (x p t c n : ℕ) : Type 0 where
  pub kind_is : pointer_kind x ≡ 1
  pub aims : Aims x p t
  pub code_is : list_code x ≡ c
  pub count_is : n < 2 ^ 29 → list_count x ≡ n

pub record TagParts (x rows dw pw : ℕ) : Type 0 where
  pub kind_is : pointer_kind x ≡ 0
  pub rows_are : rows < 2 ^ 30 → offset_field x ≡ rows
  pub data_is : data_words x ≡ dw
  pub pointers_are : pointer_words x ≡ pw

pub record FarParts (x g w mark : ℕ) : Type 0 where
  pub kind_is : pointer_kind x ≡ 2
  pub mark_is : far_mark x ≡ mark
  pub segment_is : g < 2 ^ 32 → far_segment x ≡ g
  pub word_is : w < 2 ^ 29 → far_word x ≡ w

-- x leads on to the object of the struct or list pointer y
pub record SameObject (x y p t : ℕ) : Type 0 where
  pub kind_is : pointer_kind x ≡ pointer_kind y
  pub aims : Aims x p t
  pub sizes_are : high_half x ≡ high_half y
