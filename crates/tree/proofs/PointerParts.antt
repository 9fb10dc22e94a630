-- Decoding a made pointer gives its parts back.
use Rattle.std.proofs.Common.{◌≡◌, ℕ, ◌+◌, ◌-◌, ◌*◌, ◌/◌, ◌%◌, ◌^◌, ◌<◌, ◌≤◌, refl, ap, ◌∙◌, ⊎_elim, arith}
use Rattle.std.proofs.lemmas.Bool.{cases_lt}
use Rattle.wire.specs.Pointers.{low_half, high_half, pointer_kind, offset_field, aimed_at, pointer_target, data_words, pointer_words, list_code, list_count, far_segment, far_word, far_mark, offset_between, struct_pointer, list_pointer, struct_list_tag, single_far, double_far, empty_struct}

aim_back : (p u : ℕ) → p < 2 ^ 63 → 2 ^ 29 ≤ u → u < 2 ^ 30 → 2 ^ 30 ≤ p + 1 + u → aimed_at p u + (2 ^ 30 - u) ≡ p + 1
aim_back p u hp hu hv hb =
    let q : u / 536870912 ≡ 1 = omega arith in
    rw q (omega arith)

pub aim_offset : (p t : ℕ) → p < 2 ^ 29 → t < 2 ^ 29 → aimed_at p (offset_between p t) ≡ t
aim_offset p t hp ht =
    ⊎_elim
    (λ (h : p < t). let e : offset_between p t ≡ t - p - 1 = omega arith in rw e (omega arith))
    (λ (h : t ≤ p).
    let e : offset_between p t ≡ 1073741823 + t - p = omega arith in
    let b = aim_back p (1073741823 + t - p) (omega arith) (omega arith) (omega arith) (omega arith) in
    rw e (omega (arith, b)))
    (cases_lt p t)

-- what `pointer_target` is, by the sign of `offset_between`
pub target_forward : (p x : ℕ) → p < 2 ^ 63 → offset_field x < 2 ^ 29 → pointer_target p x ≡ p + 1 + offset_field x
target_forward p x hp hx =
    let q : offset_field x / 536870912 ≡ 0 = omega arith in
    rw q (omega arith)

pub target_back : (p x : ℕ) → p < 2 ^ 63 → 2 ^ 29 ≤ offset_field x → 2 ^ 30 ≤ p + 1 + offset_field x → pointer_target p x + (2 ^ 30 - offset_field x) ≡ p + 1
target_back p x hp hx hb = aim_back p (offset_field x) hp hx (omega arith) hb

-- before the segment: past every segment
pub target_before : (p x : ℕ) → p < 2 ^ 63 → 2 ^ 29 ≤ offset_field x → p + 1 + offset_field x < 2 ^ 30 → 2 ^ 63 ≤ pointer_target p x
target_before p x hp hx hb =
    let q : offset_field x / 536870912 ≡ 1 = omega arith in
    rw q (omega arith)

-- halves
pub low_join : (a b : ℕ) → a < 2 ^ 32 → low_half (a + b * 4294967296) ≡ a
low_join a b h = omega arith

pub high_join : (a b : ℕ) → a < 2 ^ 32 → high_half (a + b * 4294967296) ≡ b
high_join a b h = omega arith

pub offset_target : (p t : ℕ) → p < 2 ^ 29 → t < 2 ^ 29 → (p + 1 + offset_between p t) % 1073741824 ≡ t
offset_target p t hp ht = omega arith

pub struct_kind : (p t dw pw : ℕ) → pointer_kind (struct_pointer p t dw pw) ≡ 0
struct_kind p t dw pw = omega arith

pub struct_target : (p t dw pw : ℕ) → p < 2 ^ 29 → t < 2 ^ 29 → pointer_target p (struct_pointer p t dw pw) ≡ t
struct_target p t dw pw hp ht =
    let e : offset_field (struct_pointer p t dw pw) ≡ offset_between p t = omega arith in
    ap (aimed_at p) e ∙ aim_offset p t hp ht

pub struct_data : (p t dw pw : ℕ) → dw < 65536 → data_words (struct_pointer p t dw pw) ≡ dw
struct_data p t dw pw h = omega arith

pub struct_pointers : (p t dw pw : ℕ) → dw < 65536 → pointer_words (struct_pointer p t dw pw) ≡ pw
struct_pointers p t dw pw h = omega arith

pub list_kind : (p t c n : ℕ) → pointer_kind (list_pointer p t c n) ≡ 1
list_kind p t c n = omega arith

pub list_target : (p t c n : ℕ) → p < 2 ^ 29 → t < 2 ^ 29 → pointer_target p (list_pointer p t c n) ≡ t
list_target p t c n hp ht =
    let e : offset_field (list_pointer p t c n) ≡ offset_between p t = omega arith in
    ap (aimed_at p) e ∙ aim_offset p t hp ht

pub list_code_is : (p t c n : ℕ) → c < 8 → list_code (list_pointer p t c n) ≡ c
list_code_is p t c n h = omega arith

pub list_count_is : (p t c n : ℕ) → c < 8 → list_count (list_pointer p t c n) ≡ n
list_count_is p t c n h = omega arith

pub tag_kind : (n dw pw : ℕ) → n < 2 ^ 30 → pointer_kind (struct_list_tag n dw pw) ≡ 0
tag_kind n dw pw h = omega arith

pub tag_rows : (n dw pw : ℕ) → n < 2 ^ 30 → offset_field (struct_list_tag n dw pw) ≡ n
tag_rows n dw pw h = omega arith

pub tag_data : (n dw pw : ℕ) → n < 2 ^ 30 → dw < 65536 → data_words (struct_list_tag n dw pw) ≡ dw
tag_data n dw pw h k = omega arith

pub tag_pointers : (n dw pw : ℕ) → n < 2 ^ 30 → dw < 65536 → pointer_words (struct_list_tag n dw pw) ≡ pw
tag_pointers n dw pw h k = omega arith

pub single_parts : (g w : ℕ) → w < 2 ^ 29 → (pointer_kind (single_far g w) ≡ 2) × (far_mark (single_far g w) ≡ 0) × (far_segment (single_far g w) ≡ g) × (far_word (single_far g w) ≡ w)
single_parts g w h = (omega arith, omega arith, omega arith, omega arith)

pub double_parts : (g w : ℕ) → w < 2 ^ 29 → (pointer_kind (double_far g w) ≡ 2) × (far_mark (double_far g w) ≡ 1) × (far_segment (double_far g w) ≡ g) × (far_word (double_far g w) ≡ w)
double_parts g w h = (omega arith, omega arith, omega arith, omega arith)

pub empty_parts : (p : ℕ) → p < 2 ^ 29 → (pointer_kind empty_struct ≡ 0) × (pointer_target p empty_struct ≡ p) × (data_words empty_struct ≡ 0) × (pointer_words empty_struct ≡ 0)
empty_parts p h = (refl, omega arith, refl, refl)
