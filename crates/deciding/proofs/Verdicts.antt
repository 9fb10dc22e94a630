-- Whole calls: the path first, then the edit at its place.
use Rattle.std.proofs.Common.{◌≡◌, ℕ, suc, false, List, [], ◌∷◌, get_or, Some, Option, sym, refl, ap, ◌∙◌, arith, w8, Fits}
use Rattle.tree.specs.Value.{Value, Step, value_at}
use Rattle.tree.specs.Shows.{Memory}
use Rattle.law.specs.Calls.{Home, Bytes, Call, Answer, write}
use Rattle.law.specs.Machine.{making, numbering, makes_too_large, no_number_in, ruling, fine, wrong, verdict, judge_path, judge}
use Rattle.walk.specs.declared.held.Held.{Held}
use Rattle.walk.specs.declared.shape.Shape.{Shape}
use Rattle.walk.specs.Holding.{Holds}
use Rattle.judging.specs.declared.ruling.Ruling.{Ruling}
use Rattle.judging.specs.declared.site.Site.{Site}
use Rattle.judging.specs.Rulings.{number_of, answer_of}
use Rattle.judging.specs.Sites.{Stands}
use Rattle.judging.proofs.Arrivals.{fine_then, wrong_then, led_to}
use Rattle.judging.proofs.Looking.{never_two}
use Rattle.deciding.specs.declared.edit.Edit.{Edit}
use Rattle.deciding.specs.declared.edit.Making.{Making}
use Rattle.deciding.specs.Edits.{shape_told, says_of}
use Rattle.deciding.specs.Choosing.{From, Chosen}
use Rattle.deciding.specs.Deciding.{Rebuilds, call_of, Settled, number_call, Lodged}
use Rattle.deciding.proofs.Settling.{refused_here, unopposed}

-- ## The path first

pub path_wrong : (v : Value) (c : Call) (y : Answer) → judge_path v c.path 0 ≡ wrong y → judge v c ≡ wrong y
unfolding judge
path_wrong v c y e = wrong_then v c.path (ruling c.edit (value_at v c.path)) y e

pub path_fine : (v : Value) (c : Call) → judge_path v c.path 0 ≡ fine → judge v c ≡ verdict (ruling c.edit (value_at v c.path))
unfolding judge
path_fine v c e = fine_then v c.path (ruling c.edit (value_at v c.path)) e

-- ## Edits

rebuilt : (H : Memory) (g w : ℕ) (o : Option Held) (m : Making) → Holds H g w o → From o m → Rebuilds H g w m
rebuilt H g w o m h f = grind (arith, led_to)

pub settles : (H : Memory) (v : Value) (p : List Step) (e : Edit) (bs : List ℕ) (s : Site) (k : Making) (o : Option Shape) → Stands H v p s → Chosen e bs s.object (value_at v p) k →
    o ≡ shape_told k s.object → Settled H v p e bs (record { site = s; making = k; shape = o })
settles H v p e bs s k o m c told =
    record {
      judged = path_fine v (call_of p e bs) m.judged ∙ c.ruled;
      slot = m.slot;
      held = m.held;
      making_is = c.making_is;
      says_is = ap (says_of e) told ∙ c.says_is;
      rebuilds = rebuilt H s.slot.segment s.slot.word s.object k m.held c.from;
    }

-- ## Numbers

-- no number is too large
module _ (code i x : ℕ) where
  patch_small : (h : Home) (u : Value) → makes_too_large (numbering h code i x u) ≡ false
  patch_small h u = grind arith

  number_small : (h : Home) (u : Value) → makes_too_large (making (write h code i x) u) ≡ false
  number_small h u = grind (arith, patch_small)

module _ (H : Memory) (v : Value) (p : List Step) (h : Home) (c code i : ℕ) (same : c ≡ code) where
  pub number_wrong : (y : Ruling) → judge_path v p 0 ≡ fine → number_of y ≡ no_number_in h c i (value_at v p) → (x : ℕ) → judge v (number_call p h code i x) ≡ wrong (answer_of y)
  number_wrong y e k x =
      path_fine v (number_call p h code i x) e ∙
      refused_here (write h code i x) (value_at v p) y (never_two h code i (value_at v p)) (k ∙ ap (λ (z : ℕ). no_number_in h z i (value_at v p)) same)

  pub lodges : (s : Site) (k : Held) → Stands H v p s → s.object ≡ Some k → no_number_in h c i (value_at v p) ≡ 0 → Lodged H v p h code i (record { site = s; held = k })
  lodges s k m o n =
      let none : no_number_in h code i (value_at v p) ≡ 0 = ap (λ (z : ℕ). no_number_in h z i (value_at v p)) (sym same) ∙ n in
      record {
        judged = λ x. path_fine v (number_call p h code i x) m.judged ∙ ap verdict (unopposed (write h code i x) (value_at v p) false none (number_small code i x h (value_at v p)));
        slot = m.slot;
        held_is = o;
        leads = led_to H s.slot.segment s.slot.word s.object k o m.held;
        there = none;
        says_is = λ x. refl;
      }

-- ## Bytes

pub bytes_fit : (bs : List ℕ) → ((i : ℕ) → Fits w8 (get_or bs i 0)) → Bytes bs
bytes_fit [] f = tt
bytes_fit (b ∷ bs) f = ((f 0).fits, bytes_fit bs (λ i. f (suc i)))
