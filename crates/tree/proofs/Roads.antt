-- Where made pointers lead.
use Rattle.std.proofs.Common.{◌≡◌, ℕ, ◌+◌, ◌*◌, ◌^◌, ◌<◌, ◌≢◌, refl, ◌∙◌, arith}
use Rattle.std.proofs.lemmas.Bool.{eq-eqb, ne_eqb}
use Rattle.wire.specs.Pointers.{pointer_kind, offset_field, pointer_target, far_mark, struct_pointer, list_pointer, struct_list_tag, single_far, double_far, empty_struct}
use Rattle.tree.specs.Value.{Element, void, bit, byte, two_bytes, four_bytes, eight_bytes, pointer, structure, plain, composite, element_code}
use Rattle.tree.specs.Shows.{Memory, Way, direct, single, double, way, landing, land, Road, Paved, Describes}
use Rattle.tree.proofs.PointerParts.{single_parts, double_parts}

pub way_direct : (x : ℕ) → pointer_kind x ≢ 2 → way x ≡ direct
way_direct x h = rw (ne_eqb (pointer_kind x) 2 h)

pub way_single : (x : ℕ) → pointer_kind x ≡ 2 → far_mark x ≡ 0 → way x ≡ single
way_single x h k = rw (eq-eqb (pointer_kind x) 2 h, k)

pub way_double : (x : ℕ) → pointer_kind x ≡ 2 → far_mark x ≡ 1 → way x ≡ double
way_double x h k = rw (eq-eqb (pointer_kind x) 2 h, k)

pub land_by : (H : Memory) (g w x : ℕ) (m : Way) → H g w ≡ x → way x ≡ m → land H g w ≡ landing H g w x m
unfolding land
land_by H g w x m e k = rw (e, k)

pub paved_by : (H : Memory) (g w x : ℕ) (m : Way) → H g w ≡ x → way x ≡ m → Road H g w x m → Paved H g w
unfolding Paved
paved_by H g w x m e k r = rw (e, k) r

-- a pointer in its own segment
pub land_direct : (H : Memory) (g w x t : ℕ) → H g w ≡ x → pointer_kind x ≢ 2 → pointer_target w x ≡ t →
    land H g w ≡ record { said = x; seg = g; pos = t; pad_seg = g; pad_pos = w; pad_len = 0 }
land_direct H g w x t e k q = land_by H g w x direct e (way_direct x k) ∙ rw q

-- over one pad
pub land_single : (H : Memory) (g w s q x t : ℕ) → q < 2 ^ 29 → H g w ≡ single_far s q → H s q ≡ x → pointer_target q x ≡ t →
    land H g w ≡ record { said = x; seg = s; pos = t; pad_seg = s; pad_pos = q; pad_len = 1 }
land_single H g w s q x t h e k r =
    let z = single_parts s q h in
    land_by H g w (single_far s q) single e (way_single (single_far s q) z.0 z.1) ∙ rw (z.2, z.3, k, r)

-- over two pads
pub land_double : (H : Memory) (g w s q x b t : ℕ) → q < 2 ^ 29 → t < 2 ^ 29 → H g w ≡ double_far s q → H s q ≡ single_far b t → H s (q + 1) ≡ x →
    land H g w ≡ record { said = x; seg = b; pos = t; pad_seg = s; pad_pos = q; pad_len = 2 }
land_double H g w s q x b t h h' e k r =
    let z = double_parts s q h in
    let y = single_parts b t h' in
    land_by H g w (double_far s q) double e (way_double (double_far s q) z.0 z.1) ∙ rw (z.2, z.3, k, r, y.2, y.3)

pub paved_direct : (H : Memory) (g w x : ℕ) → H g w ≡ x → pointer_kind x ≢ 2 → x ≢ 0 → Paved H g w
paved_direct H g w x e k n = paved_by H g w x direct e (way_direct x k) n

pub paved_single : (H : Memory) (g w s q : ℕ) → q < 2 ^ 29 → H g w ≡ single_far s q → H s q ≢ 0 → Paved H g w
paved_single H g w s q h e n =
    let z = single_parts s q h in
    paved_by H g w (single_far s q) single e (way_single (single_far s q) z.0 z.1) (rw (z.2, z.3) n)

pub paved_double : (H : Memory) (g w s q b t : ℕ) → q < 2 ^ 29 → t < 2 ^ 29 → H g w ≡ double_far s q → H s q ≡ single_far b t →
    offset_field (H s (q + 1)) ≡ 0 → Paved H g w
paved_double H g w s q b t h h' e k n =
    let z = double_parts s q h in
    let y = single_parts b t h' in
    paved_by H g w (double_far s q) double e (way_double (double_far s q) z.0 z.1)
    (rw (z.2, z.3, k) (way_single (single_far b t) y.0 y.1), rw (z.2, z.3) n)

-- a slot that shows an object is not zero
pub paved_live : (H : Memory) (g w : ℕ) → Paved H g w → H g w ≢ 0
unfolding Paved
paved_live H g w p e = (rw e at p) refl

-- made pointers describe their shape
pub describes_struct : (p t dw pw z : ℕ) → dw < 65536 → Describes (struct_pointer p t dw pw) z (structure dw pw)
unfolding Describes
describes_struct p t dw pw z h = (omega arith, omega arith, omega arith)

pub describes_empty : (z : ℕ) → Describes empty_struct z (structure 0 0)
unfolding Describes
describes_empty z = (refl, refl, refl)

pub describes_plain : (p t : ℕ) (c : Element) (n z : ℕ) → Describes (list_pointer p t (element_code c) n) z (plain c n)
unfolding Describes
describes_plain p t void n z = (omega arith, omega arith, omega arith)
describes_plain p t bit n z = (omega arith, omega arith, omega arith)
describes_plain p t byte n z = (omega arith, omega arith, omega arith)
describes_plain p t two_bytes n z = (omega arith, omega arith, omega arith)
describes_plain p t four_bytes n z = (omega arith, omega arith, omega arith)
describes_plain p t eight_bytes n z = (omega arith, omega arith, omega arith)
describes_plain p t pointer n z = (omega arith, omega arith, omega arith)

pub describes_composite : (p t n dw pw : ℕ) → n < 2 ^ 30 → dw < 65536 →
    Describes (list_pointer p t 7 (n * (dw + pw))) (struct_list_tag n dw pw) (composite n dw pw)
unfolding Describes
describes_composite p t n dw pw h k = (omega arith, omega arith, omega arith, omega arith, omega arith, omega arith, omega arith)
