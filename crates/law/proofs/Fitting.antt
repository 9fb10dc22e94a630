-- An accepted call makes only what fits: sizes that a pointer can hold, numbers in range, shapes that grow.
use Rattle.std.proofs.Common.{◌≡◌, ℕ, zero, suc, ◌+◌, ◌-◌, ◌*◌, ◌^◌, ◌<◌, ◌≤◌, min, Bool, true, false, cond, ◌||◌, eqb, leb, sym, refl, subst, inl, inr, arith}
use Rattle.std.proofs.lemmas.Bool.{leb-true, leb-false, ltb-true, eqb-true, eqb-false, and_parts, true≢false}
use Rattle.wire.specs.Sizes.{element_bits}
use Rattle.wire.specs.Elements.{element_word}
use Rattle.tree.specs.Value.{Element, void, bit, byte, two_bytes, four_bytes, eight_bytes, pointer, element_code, element_pointers, Shape, structure, plain, composite, Value, null, object}
use Rattle.tree.specs.Shows.{Describes}
use Rattle.law.specs.Calls.{Home, field, row, item, Edit, init_struct, init_list, init_rows, get_struct, get_rows, text, clear, write, Typed}
use Rattle.law.specs.Machine.{keep, rebuild, making, numbering, grown, enough, too_large, makes_too_large, no_number, objection}
use Rattle.law.proofs.Spots.{Describable}
use Rattle.law.proofs.Rebuilds.{Grows}
use Rattle.law.proofs.Turns.{FitsMaking}

-- ## Shapes

-- data sections of 16 bits
abbrev pub Narrow : Shape → Type 0
Narrow (structure dw pw) = dw < 65536
Narrow (plain c n) = Unit {0}
Narrow (composite n dw pw) = dw < 65536

pub described_narrow : (x t : ℕ) (sh : Shape) → Describes x t sh → Narrow sh
unfolding Describes
described_narrow x t (structure dw pw) d = omega (arith, d.1)
described_narrow x t (plain c n) d = tt
described_narrow x t (composite n dw pw) d = omega (arith, d.5)

not_many : (n k : ℕ) → (leb (2 ^ 30) n || leb (2 ^ 29) k) ≡ false → n < 2 ^ 30
not_many n k e = go (leb (2 ^ 30) n) refl e
  where
    go : (b : Bool) → leb (2 ^ 30) n ≡ b → (b || leb (2 ^ 29) k) ≡ false → n < 2 ^ 30
    go true f e = absurd (true≢false e)
    go false f e = leb-false (2 ^ 30) n f

-- a shape that is narrow and not too large
describable : (sh : Shape) → Narrow sh → too_large sh ≡ false → Describable sh
describable (structure dw pw) h e = h
describable (plain c n) h e = tt
describable (composite n dw pw) h e = (not_many n (n * (dw + pw)) e, h)

element_section : (c : Element) → cond (eqb (element_pointers c) 0) (min 1 (element_bits (element_code c))) 0 ≤ 1
element_section void = omega arith
element_section bit = omega arith
element_section byte = omega arith
element_section two_bytes = omega arith
element_section four_bytes = omega arith
element_section eight_bytes = omega arith
element_section pointer = omega arith

grown_narrow : (sh : Shape) (dw pw : ℕ) → dw < 65536 → Narrow sh → Narrow (grown sh dw pw)
grown_narrow (structure d p) dw pw h n = omega arith
grown_narrow (plain c k) dw pw h n = let s = element_section c in omega arith
grown_narrow (composite k d p) dw pw h n = omega arith

element_grows : (c : Element) (n dw pw : ℕ) → Grows (plain c n) (grown (plain c n) dw pw)
element_grows void n dw pw = record { rowed = tt; rows_same = refl; more_pointers = omega arith; more_places = inr refl }
element_grows bit n dw pw = record { rowed = tt; rows_same = refl; more_pointers = omega arith; more_places = inl (omega arith) }
element_grows byte n dw pw = record { rowed = tt; rows_same = refl; more_pointers = omega arith; more_places = inl (omega arith) }
element_grows two_bytes n dw pw = record { rowed = tt; rows_same = refl; more_pointers = omega arith; more_places = inl (omega arith) }
element_grows four_bytes n dw pw = record { rowed = tt; rows_same = refl; more_pointers = omega arith; more_places = inl (omega arith) }
element_grows eight_bytes n dw pw = record { rowed = tt; rows_same = refl; more_pointers = omega arith; more_places = inl (omega arith) }
element_grows pointer n dw pw = record { rowed = tt; rows_same = refl; more_pointers = omega arith; more_places = inl (omega arith) }

shape_grows : (sh : Shape) (dw pw : ℕ) → Grows sh (grown sh dw pw)
shape_grows (structure d p) dw pw = record { rowed = tt; rows_same = refl; more_pointers = omega arith; more_places = inl (omega arith) }
shape_grows (plain c n) dw pw = element_grows c n dw pw
shape_grows (composite n d p) dw pw = record { rowed = tt; rows_same = refl; more_pointers = omega arith; more_places = inl (omega arith) }

-- ## Get-writables

get_fits : (sh : Shape) (dat : ℕ → ℕ → ℕ) (kid : ℕ → ℕ → Value) (dw pw : ℕ) → dw < 65536 → Narrow sh →
    makes_too_large (cond (enough sh dw pw) keep (rebuild (grown sh dw pw))) ≡ false →
    FitsMaking (cond (enough sh dw pw) keep (rebuild (grown sh dw pw))) (object sh dat kid)
get_fits sh dat kid dw pw h n = go (enough sh dw pw)
  where
    go : (b : Bool) → makes_too_large (cond b keep (rebuild (grown sh dw pw))) ≡ false → FitsMaking (cond b keep (rebuild (grown sh dw pw))) (object sh dat kid)
    go true e = tt
    go false e = (shape_grows sh dw pw, describable (grown sh dw pw) (grown_narrow sh dw pw h n) e)

-- ## Number writes

pub nine : (b : Bool) → ◌≡◌ {A = ℕ} (cond b 0 9) 0 → b ≡ true
nine true h = refl
nine false h = absurd (omega arith)

-- a number that fits stands in one of the data words
pub fits_word : (c i d : ℕ) → 1 ≤ element_bits c → (i + 1) * element_bits c ≤ 64 * d → element_word c i < d
fits_word zero i d h k = absurd (omega arith)
fits_word (suc zero) i d h k = omega arith
fits_word (suc (suc zero)) i d h k = omega arith
fits_word (suc (suc (suc zero))) i d h k = omega arith
fits_word (suc (suc (suc (suc zero)))) i d h k = omega arith
fits_word (suc (suc (suc (suc (suc n))))) i d h k = omega arith

pub item_place : (c : Element) → eqb (element_pointers c) 0 ≡ true → 0 < 1 - element_pointers c
item_place c e = let z : element_pointers c ≡ 0 = eqb-true (element_pointers c) 0 e in omega arith

number_fits : (h : Home) (code i x : ℕ) (sh : Shape) (dat : ℕ → ℕ → ℕ) (kid : ℕ → ℕ → Value) → 1 ≤ element_bits code → x < 2 ^ element_bits code →
    no_number h code i sh ≡ 0 → FitsMaking (numbering h code i x (object sh dat kid)) (object sh dat kid)
number_fits field code i x (structure dw pw) dat kid wide hx e =
    (omega arith, fits_word code i dw wide (leb-true _ _ (nine _ e)), tt, omega arith)
number_fits field code i x (plain c n) dat kid wide hx e = absurd (omega arith)
number_fits field code i x (composite n dw pw) dat kid wide hx e = absurd (omega arith)
number_fits (row r) code i x (structure dw pw) dat kid wide hx e = absurd (omega arith)
number_fits (row r) code i x (plain c n) dat kid wide hx e = absurd (omega arith)
number_fits (row r) code i x (composite n dw pw) dat kid wide hx e =
    let both = and_parts _ _ (nine _ e) in
    (ltb-true r n both.0, fits_word code i dw wide (leb-true _ _ both.1), tt, omega arith)
number_fits item code i x (structure dw pw) dat kid wide hx e = absurd (omega arith)
number_fits item code i x (plain c n) dat kid wide hx e =
    let q = and_parts _ _ (nine _ e) in
    let both = and_parts _ _ q.1 in
    let same : element_code c ≡ code = eqb-true (element_code c) code both.0 in
    (ltb-true i n both.1, item_place c q.0, subst (λ z. x < 2 ^ element_bits z) (sym same) hx, subst (λ z. 1 ≤ element_bits z) (sym same) wide)
number_fits item code i x (composite n dw pw) dat kid wide hx e = absurd (omega arith)

write_fits : (h : Home) (code i x : ℕ) (sh : Shape) (dat : ℕ → ℕ → ℕ) (kid : ℕ → ℕ → Value) → x < 2 ^ element_bits code → no_number h code i sh ≡ 0 →
    FitsMaking (cond (eqb (element_bits code) 0) keep (numbering h code i x (object sh dat kid))) (object sh dat kid)
write_fits h code i x sh dat kid hx e = go (eqb (element_bits code) 0) refl
  where
    go : (b : Bool) → eqb (element_bits code) 0 ≡ b → FitsMaking (cond b keep (numbering h code i x (object sh dat kid))) (object sh dat kid)
    go true f = tt
    go false f = let n = eqb-false (element_bits code) 0 f in number_fits h code i x sh dat kid (omega arith) hx e

-- ## Every edit

abbrev pub NarrowValue : Value → Type 0
NarrowValue null = Unit {0}
NarrowValue (object sh dat kid) = Narrow sh

pub fitting : (e : Edit) (u : Value) → Typed e → NarrowValue u → objection e u ≡ 0 → makes_too_large (making e u) ≡ false → FitsMaking (making e u) u
fitting (init_struct dw pw) u t n o l = t.0
fitting (init_list code k) u t n o l = tt
fitting (init_rows k dw pw) u t n o l = describable (composite k dw pw) t.0 l
fitting (get_struct dw pw) null t n o l = t.0
fitting (get_struct dw pw) (object sh dat kid) t n o l = get_fits sh dat kid dw pw t.0 n l
fitting (get_rows dw pw) null t n o l = tt
fitting (get_rows dw pw) (object sh dat kid) t n o l = get_fits sh dat kid dw pw t.0 n l
fitting (text bytes) u t n o l = t
fitting clear u t n o l = tt
fitting (write h code i x) null t n o l = absurd (omega arith)
fitting (write h code i x) (object sh dat kid) t n o l = write_fits h code i x sh dat kid t.1 o
