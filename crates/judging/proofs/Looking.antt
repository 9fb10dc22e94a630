-- Reads at a place: what the words give is what the tree says.
use Rattle.std.proofs.Common.{◌≡◌, ℕ, ◌+◌, ◌*◌, ◌/◌, ◌%◌, ◌^◌, ◌<◌, ◌≤◌, true, ltb, leb, ◌≢◌, List, Ok, Err, Option, sym, ap, ◌∙◌, ap₂, arith}
use Rattle.std.proofs.lemmas.Bool.{ltb-true, and_parts}
use Rattle.std.proofs.lemmas.Nat.{pow_pos, mod_below}
use Rattle.wire.specs.Sizes.{element_bits, list_words}
use Rattle.wire.specs.Elements.{element_word, element_bit, element_in}
use Rattle.tree.specs.Value as shapes
use Rattle.tree.specs.Value.{Element, void, bit, byte, two_bytes, four_bytes, eight_bytes, pointer, element_code, element_pointers, Shape, structure, plain, composite, Value, null, object, size, value_at}
use Rattle.tree.specs.Shows.{Memory, Landing, land, Shows}
use Rattle.tree.proofs.Decoding.{describes_shape}
use Rattle.tree.proofs.Shapes.{row_fits}
use Rattle.law.specs.Calls.{Home, field, row, item, Answer, value}
use Rattle.law.specs.Machine.{Verdict, fine, wrong, verdict, judge_path, no_number, no_number_in}
use Rattle.law.specs.Reads.{Query, number, shape, number_in, number_word, no_answer, found, answered, look}
use Rattle.law.proofs.Looks.{reads}
use Rattle.law.proofs.Fitting.{nine, fits_word}
use Rattle.walk.specs.declared.shape.Shape as walks
use Rattle.path.specs.declared.step.Step.{Step}
use Rattle.walk.specs.Spots.{spot_of}
use Rattle.walk.specs.Shapes.{shape_meant}
use Rattle.walk.specs.Slots.{steps_of}
use Rattle.judging.specs.declared.ruling.Ruling.{Ruling}
use Rattle.walk.specs.declared.held.Held.{Held}
use Rattle.judging.specs.Rulings.{number_of, answer_of}
use Rattle.walk.specs.Holding.{Leads, Holds}
use Rattle.judging.specs.declared.site.Site.{Site}
use Rattle.walk.specs.Showing.{OfSlot, OfRoot}
use Rattle.judging.specs.Sites.{shape_in, meant, Judged}
use Rattle.judging.specs.Replies.{sizes_meant, look_here}
use Rattle.judging.proofs.Arrivals.{fine_then, wrong_then, slot_shows}

-- ## A path that is fine, and one that is not

pub look_fine : (v : Value) (p : List shapes.Step) (q : Query) → judge_path v p 0 ≡ fine → look v p q ≡ look_here (value_at v p) q
unfolding look
look_fine v p q e = ap (λ (t : Verdict). answered t (found q (value_at v p))) (fine_then v p (no_answer q (value_at v p)) e)

pub look_wrong : (v : Value) (p : List shapes.Step) (q : Query) (y : Answer) → judge_path v p 0 ≡ wrong y → look v p q ≡ y
unfolding look
look_wrong v p q y e = ap (λ (t : Verdict). answered t (found q (value_at v p))) (wrong_then v p (no_answer q (value_at v p)) y e)

module _ (H : Memory) (ss : List Step) (q : Query) where
  -- the answer, where the path is refused
  pub refused_look : (y : Ruling) → OfRoot H (λ v. Judged H v (steps_of ss) (Err y)) → OfRoot H (λ v. answer_of y ≡ look v (steps_of ss) q)
  refused_look y k = λ a v small shown. sym (look_wrong v (steps_of ss) q (answer_of y) (k a v small shown))

  -- where it leads to a site, at whose value x is the answer
  pub there_look : (s : Site) (x : Answer) → OfRoot H (λ v. Judged H v (steps_of ss) (Ok s)) →
      (Holds H s.slot.segment s.slot.word s.object → OfSlot H s.slot.segment s.slot.word (λ u. x ≡ look_here u q)) → OfRoot H (λ v. x ≡ look v (steps_of ss) q)
  there_look s x k here = λ a v small shown.
      let m = k a v small shown in
      let at = slot_shows H a v (steps_of ss) (spot_of s.slot) shown m.judged m.slot in
      here m.held a (value_at v (steps_of ss)) small at ∙ sym (look_fine v (steps_of ss) q m.judged)

-- ## Rulings by their numbers

-- every ruling but 2 is answered by its number
pub answer_by_number : (y : Ruling) (n : ℕ) → n ≢ 2 → number_of y ≡ n → wrong (answer_of y) ≡ verdict n
answer_by_number y n h e = grind arith

pub never_two : (h : Home) (code i : ℕ) (u : Value) → no_number_in h code i u ≢ 2
never_two h code i u e = grind arith

-- a number that is refused, where the code is found to be c
pub number_refused : (h : Home) (c code i : ℕ) (u : Value) (y : Ruling) → c ≡ code → number_of y ≡ no_number_in h c i u →
    answer_of y ≡ look_here u (number h code i)
number_refused h c code i u y same e =
    ap (λ (t : Verdict). answered t (found (number h code i) u))
    (answer_by_number y (no_number_in h code i u) (never_two h code i u) (e ∙ ap (λ (z : ℕ). no_number_in h z i u) same))

-- ## The word of a number is counted

field_inside : (code i d : ℕ) → leb ((i + 1) * element_bits code) (64 * d) ≡ true → element_word code i ≤ d
field_inside code i d e = grind (arith, fits_word)

item_inside : (c : Element) (i n : ℕ) → i < n → element_word (element_code c) i ≤ list_words (element_code c) n
item_inside c i n h = grind arith

number_inside : (sh : Shape) (h : Home) (code i : ℕ) → no_number h code i sh ≡ 0 → number_word sh h code i ≤ size sh
number_inside (structure dw pw) h code i e = grind (arith, field_inside)
number_inside (plain c n) h code i e = grind (arith, item_inside)
number_inside (composite n dw pw) field code i e = absurd (omega arith)
number_inside (composite n dw pw) (row r) code i e =
    let both = and_parts (ltb r n) (leb ((i + 1) * element_bits code) (64 * dw)) (nine _ e) in
    let k = field_inside code i dw both.1 in
    omega (arith, row_fits r n (dw + pw) (ltb-true r n both.0))
number_inside (composite n dw pw) item code i e = absurd (omega arith)

-- ## At a slot that shows u

module _ (H : Memory) (a : ℕ → ℕ) (g w : ℕ) (home : Home) (code i : ℕ) where
  module _ (h : Held) (leads : Leads H g w h) (small : (x : ℕ) → a x ≤ 2 ^ 29) (c : ℕ) (same : c ≡ code) where
    -- the word that is read is that of the number
    pub number_there : (u : Value) (m k x : ℕ) → Shows H a g w u → no_number_in home c i u ≡ 0 → m ≡ number_word (shape_meant h.shape) home c i →
        k ≡ (h.landing.start.word + m) % 18446744073709551616 → x ≡ H h.landing.start.segment k →
        value (element_in x code i) ≡ look_here u (number home code i)
    number_there null m k x shown e f r d = absurd (leads.live shown)
    number_there (object sh dat kid) m k x shown e f r d =
        let l : Landing = land H g w in
        let shaped : shape_meant h.shape ≡ sh = leads.shaped ∙ describes_shape l.said (H l.seg l.pos) sh shown.1.described in
        let none : no_number home code i sh ≡ 0 = ap (λ (z : ℕ). no_number home z i sh) (sym same) ∙ e in
        let placed : m ≡ number_word sh home code i = f ∙ (ap (λ (z : Shape). number_word z home c i) shaped ∙ ap (λ (z : ℕ). number_word sh home z i) same) in
        let inside = number_inside sh home code i none in
        let fits = shown.1.inside in
        let bound = small l.seg in
        let start : h.landing.start.word ≡ l.pos = ap (λ (z : Landing). z.pos) leads.lands in
        let segment : h.landing.start.segment ≡ l.seg = ap (λ (z : Landing). z.seg) leads.lands in
        let word : k ≡ l.pos + number_word sh home code i = omega arith in
        let read : x ≡ H l.seg (l.pos + number_word sh home code i) = d ∙ ap₂ H segment word in
        ap (λ (z : ℕ). value (element_in z code i)) read ∙
        (ap value (sym (reads.numbers_are_there H a g w sh dat kid home code i shown none)) ∙
        ap (λ (z : ℕ). answered (verdict z) (value (number_in dat home code i))) (sym none))

-- ## The bits of a number, and sizes

pub picked_small : (x code i : ℕ) → element_in x code i < 2 ^ element_bits code
picked_small x code i = mod_below (x / 2 ^ element_bit code i) (2 ^ element_bits code) (pow_pos (element_bits code))

pub sizes_there : (u : Value) (o : Option walks.Shape) → meant o ≡ shape_in u → sizes_meant o ≡ look_here u shape
sizes_there u o e = grind arith
