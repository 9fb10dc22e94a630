-- Where a slot leads, by the kind of its word.
use Rattle.std.proofs.Common.{◌≡◌, ℕ, zero, suc, ◌+◌, ◌<◌, true, false, eqb, sym, refl, ap, ◌∙◌, arith}
use Rattle.std.proofs.lemmas.Bool.{cond-true, cond-false, eqb-true, eqb-false}
use Rattle.wire.specs.Pointers.{pointer_kind, pointer_target, far_segment, far_word, far_mark}
use Rattle.tree.specs.Shows.{Memory, Way, direct, single, double, far_way, way, landing, land}

pub land_by : (H : Memory) (g w : ℕ) (k : Way) → way (H g w) ≡ k → land H g w ≡ landing H g w (H g w) k
unfolding land
land_by H g w k e = ap (landing H g w (H g w)) e

pub way_direct : (x : ℕ) → eqb (pointer_kind x) 2 ≡ false → way x ≡ direct
way_direct x e = cond-false (eqb (pointer_kind x) 2) (far_way (far_mark x)) direct e

marked : (n : ℕ) → n ≡ 1 → far_way n ≡ double
marked n e = rw e refl

unmarked : (n : ℕ) → n < 2 → (n ≡ 1 → ⊥) → far_way n ≡ single
unmarked zero h e = refl
unmarked (suc n) h e = absurd (e (omega arith))

pub way_double : (x : ℕ) → eqb (pointer_kind x) 2 ≡ true → eqb (far_mark x) 1 ≡ true → way x ≡ double
way_double x e d = cond-true (eqb (pointer_kind x) 2) (far_way (far_mark x)) direct e ∙ marked (far_mark x) (eqb-true (far_mark x) 1 d)

pub way_single : (x : ℕ) → eqb (pointer_kind x) 2 ≡ true → eqb (far_mark x) 1 ≡ false → way x ≡ single
way_single x e d =
    cond-true (eqb (pointer_kind x) 2) (far_way (far_mark x)) direct e ∙ unmarked (far_mark x) (omega arith) (eqb-false (far_mark x) 1 d)

-- ## As the code finds it

module _ (H : Memory) (g w x : ℕ) (here : x ≡ H g w) where
  pub lands_direct : (t : ℕ) → eqb (pointer_kind x) 2 ≡ false → t ≡ pointer_target w x →
      record { said = x; seg = g; pos = t; pad_seg = g; pad_pos = w; pad_len = 0 } ≡ land H g w
  lands_direct t e a =
      let d : eqb (pointer_kind (H g w)) 2 ≡ false = rw here at e in
      rw (a, here) (sym (land_by H g w direct (way_direct (H g w) d)))

  module _ (s q y : ℕ) (in_segment : s ≡ far_segment x) (in_word : q ≡ far_word x) (there : y ≡ H s q) (far : eqb (pointer_kind x) 2 ≡ true) where
    pub lands_single : (t : ℕ) → eqb (far_mark x) 1 ≡ false → t ≡ pointer_target q y →
        record { said = y; seg = s; pos = t; pad_seg = s; pad_pos = q; pad_len = 1 } ≡ land H g w
    lands_single t e a =
        let f : eqb (pointer_kind (H g w)) 2 ≡ true = rw here at far in
        let d : eqb (far_mark (H g w)) 1 ≡ false = rw here at e in
        rw (a, there, in_segment, in_word, here) (sym (land_by H g w single (way_single (H g w) f d)))

    pub lands_double : (z u t : ℕ) → eqb (far_mark x) 1 ≡ true → z ≡ H s (q + 1) → u ≡ far_segment y → t ≡ far_word y →
        record { said = z; seg = u; pos = t; pad_seg = s; pad_pos = q; pad_len = 2 } ≡ land H g w
    lands_double z u t e a b c =
        let f : eqb (pointer_kind (H g w)) 2 ≡ true = rw here at far in
        let d : eqb (far_mark (H g w)) 1 ≡ true = rw here at e in
        rw (a, b, c, there, in_segment, in_word, here) (sym (land_by H g w double (way_double (H g w) f d)))
