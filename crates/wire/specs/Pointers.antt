-- Pointer words as the encoding lays them down. A word is a number below 2 ^ 64; A is its lower and B its upper 32 bits.
use Rattle.std.specs.Prelude.{ℕ, suc, ◌+◌, ◌-◌, ◌*◌, ◌/◌, ◌%◌, cond, ℤ, pos, negsuc, ◌+ℤ◌, nat_lt}

-- ## Reading

-- A
abbrev pub low_half : ℕ → ℕ
low_half x = x % 4294967296

-- B
abbrev pub high_half : ℕ → ℕ
high_half x = x / 4294967296

-- 0 struct, 1 list, 2 far, 3 other
abbrev pub pointer_kind : ℕ → ℕ
pointer_kind x = low_half x % 4

-- the 30 bits of A above the kind: a struct or list pointer's offset in two's complement, a tag's number of rows
abbrev pub offset_field : ℕ → ℕ
offset_field x = low_half x / 4

-- a field of 30 bits read as a signed number
abbrev pub signed_offset : ℕ → ℤ
signed_offset u = cond (nat_lt u 536870912) (pos u) (negsuc (1073741824 - suc u))

-- the offset of a struct or list pointer, in words: A read as a signed number and shifted right by two
abbrev pub pointer_offset : ℕ → ℤ
pointer_offset x = signed_offset (offset_field x)

-- where a struct or list pointer x in word p leads, counted from the segment's start: p + 1 + offset
abbrev pub signed_target : (p x : ℕ) → ℤ
signed_target p x = (pos p +ℤ pos 1) +ℤ pointer_offset x

-- The same in 64-bit arithmetic for an offset field of u: a place before the segment becomes a number that no segment reaches.
abbrev pub aimed_at : (p u : ℕ) → ℕ
aimed_at p u = (p + 1 + u + u / 536870912 * 18446744072635809792) % 18446744073709551616

abbrev pub pointer_target : (p x : ℕ) → ℕ
pointer_target p x = aimed_at p (offset_field x)

-- a struct pointer's (and a tag's) data words and pointers
abbrev pub data_words : ℕ → ℕ
data_words x = high_half x % 65536

abbrev pub pointer_words : ℕ → ℕ
pointer_words x = high_half x / 65536

-- a list pointer's element code and count
abbrev pub list_code : ℕ → ℕ
list_code x = high_half x % 8

abbrev pub list_count : ℕ → ℕ
list_count x = high_half x / 8

-- a far pointer's segment and word, and bit 2 of A, which marks a double far
abbrev pub far_segment : ℕ → ℕ
far_segment x = high_half x

abbrev pub far_word : ℕ → ℕ
far_word x = low_half x / 8

abbrev pub far_mark : ℕ → ℕ
far_mark x = low_half x / 4 % 2

-- ## Making

-- the offset field that leads from word p to word t: t - p - 1 modulo 2 ^ 30
abbrev pub offset_between : (p t : ℕ) → ℕ
offset_between p t = (t + 2147483647 - p % 1073741824) % 1073741824

-- a struct of dw data words and pw pointers in word t
abbrev pub struct_pointer : (p t dw pw : ℕ) → ℕ
struct_pointer p t dw pw = offset_between p t * 4 + (dw + pw * 65536) * 4294967296

-- a list of element code c and count n in word t
abbrev pub list_pointer : (p t c n : ℕ) → ℕ
list_pointer p t c n = offset_between p t * 4 + 1 + (c + n * 8) * 4294967296

-- the word before the rows of a struct list
abbrev pub struct_list_tag : (rows dw pw : ℕ) → ℕ
struct_list_tag rows dw pw = rows * 4 + (dw + pw * 65536) * 4294967296

-- to word w of segment g: one landing pad word, or two
abbrev pub single_far : (g w : ℕ) → ℕ
single_far g w = 2 + w * 8 + g * 4294967296

abbrev pub double_far : (g w : ℕ) → ℕ
double_far g w = 6 + w * 8 + g * 4294967296

-- an empty struct is its own slot: offset -1, no sizes
abbrev pub empty_struct : ℕ
empty_struct = 4294967292

-- ## The same object from elsewhere

-- the struct or list pointer x, aimed from word p at word t
abbrev pub re_aimed : (x p t : ℕ) → ℕ
re_aimed x p t = pointer_kind x + offset_between p t * 4 + high_half x * 4294967296

-- the struct or list pointer x with offset 0, as the second word of a double landing pad has it
abbrev pub unaimed : ℕ → ℕ
unaimed x = pointer_kind x + high_half x * 4294967296
