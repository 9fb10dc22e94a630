-- The shape that a pointer says, by its kind and code.
use Rattle.std.proofs.Common.{◌≡◌, ℕ, cond, eqb, sym, refl, ◌∙◌, arith}
use Rattle.std.proofs.lemmas.Bool.{cond-true, cond-false, eq-eqb, ne_eqb}
use Rattle.wire.specs.Pointers.{pointer_kind, offset_field, data_words, pointer_words, list_code, list_count}
use Rattle.wire.specs.Kinds.{kind_number}
use Rattle.wire.specs.Sizes.{code_of}
use Rattle.wire.specs.declared.pointers.WirePointerKind.{WirePointerKind}
use Rattle.wire.specs.declared.pointers.WirePointerKind.TheVariants as kinds
use Rattle.wire.specs.declared.sizes.ElementSize.{ElementSize}
use Rattle.wire.specs.declared.sizes.ElementSize.TheVariants as codes
use Rattle.tree.specs.Value.{Shape, structure, plain, composite}
use Rattle.tree.specs.Decode.{element_of_code, shape_of}

-- only struct pointers have kind 0
pub not_struct : (k : WirePointerKind) → (k ≡ kinds.Struct → ⊥) → (kind_number k ≡ 0 → ⊥)
not_struct kinds.Struct n = λ _. n refl
not_struct kinds.List n = λ e. omega arith
not_struct kinds.Far n = λ e. omega arith
not_struct kinds.Other n = λ e. omega arith

-- only struct lists have code 7
not_composite : (k : ElementSize) → (k ≡ codes.InlineComposite → ⊥) → (code_of k ≡ 7 → ⊥)
not_composite codes.Void n = λ e. omega arith
not_composite codes.Bit n = λ e. omega arith
not_composite codes.Byte n = λ e. omega arith
not_composite codes.TwoBytes n = λ e. omega arith
not_composite codes.FourBytes n = λ e. omega arith
not_composite codes.EightBytes n = λ e. omega arith
not_composite codes.Pointer n = λ e. omega arith
not_composite codes.InlineComposite n = λ _. n refl

module _ (x t : ℕ) where
  abbrev listed : Shape
  listed = cond (eqb (list_code x) 7) (composite (offset_field t) (data_words t) (pointer_words t)) (plain (element_of_code (list_code x)) (list_count x))

  pub shape_struct : (d p : ℕ) → pointer_kind x ≡ 0 → d ≡ data_words x → p ≡ pointer_words x → structure d p ≡ shape_of x t
  unfolding shape_of
  shape_struct d p k e f =
      rw (e, f) (sym (cond-true (eqb (pointer_kind x) 0) (structure (data_words x) (pointer_words x)) listed (eq-eqb (pointer_kind x) 0 k)))

  shape_list : (pointer_kind x ≡ 0 → ⊥) → listed ≡ shape_of x t
  unfolding shape_of
  shape_list k = sym (cond-false (eqb (pointer_kind x) 0) (structure (data_words x) (pointer_words x)) listed (ne_eqb (pointer_kind x) 0 k))

  pub shape_rows : (n d p : ℕ) → (pointer_kind x ≡ 0 → ⊥) → list_code x ≡ 7 → n ≡ offset_field t → d ≡ data_words t → p ≡ pointer_words t →
      composite n d p ≡ shape_of x t
  shape_rows n d p k c e f h =
      rw (e, f, h)
      (sym (cond-true (eqb (list_code x) 7) (composite (offset_field t) (data_words t) (pointer_words t)) (plain (element_of_code (list_code x)) (list_count x)) (eq-eqb (list_code x) 7 c)) ∙
      shape_list k)

  shape_plain : (c n : ℕ) → (pointer_kind x ≡ 0 → ⊥) → (c ≡ 7 → ⊥) → c ≡ list_code x → n ≡ list_count x → plain (element_of_code c) n ≡ shape_of x t
  shape_plain c n k o e f =
      let m : list_code x ≡ 7 → ⊥ = λ h. o (e ∙ h) in
      rw (e, f)
      (sym (cond-false (eqb (list_code x) 7) (composite (offset_field t) (data_words t) (pointer_words t)) (plain (element_of_code (list_code x)) (list_count x)) (ne_eqb (list_code x) 7 m)) ∙
      shape_list k)

  pub shape_listed : (k : WirePointerKind) (e : ElementSize) (n : ℕ) → (k ≡ kinds.Struct → ⊥) → (e ≡ codes.InlineComposite → ⊥) →
      kind_number k ≡ pointer_kind x → code_of e ≡ list_code x → n ≡ list_count x → plain (element_of_code (code_of e)) n ≡ shape_of x t
  shape_listed k e n s c f h i = shape_plain (code_of e) n (λ z. not_struct k s (f ∙ z)) (not_composite e c) h i
