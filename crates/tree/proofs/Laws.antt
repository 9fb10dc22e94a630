-- All laws together.
use Rattle.std.proofs.Common.{◌≡◌, ℕ, ◌<◌, refl, arith}
use Rattle.tree.specs.Value.{null, object}
use Rattle.tree.specs.Shows.{Memory, Sound}
use Rattle.tree.specs.Laws.{Laws}
use Rattle.tree.specs.Zeroing.{ZeroingWalks}
use Rattle.tree.proofs.Count.{within_le}
use Rattle.tree.proofs.Edits as edits
use Rattle.tree.proofs.Blank as blanks
use Rattle.tree.proofs.Moves as moves
use Rattle.tree.proofs.Transfers as transfers
use Rattle.tree.proofs.Numbers as numbers
use Rattle.tree.proofs.Wipe as wipe
use Rattle.tree.proofs.Relocate as relocate
use Rattle.tree.proofs.Decoding as decoding
use Rattle.tree.proofs.Extents.{sound, well_laid}

begin : (H : Memory) (a : ℕ → ℕ) → 0 < a 0 → ((x y : ℕ) → H x y ≡ 0) → Sound H a null
begin H a h z = record { rooted = h; shown = z 0 0; once = λ x y. omega (arith, within_le 0 0 1 x y); clean = λ x y _. z x y }

pub laws : Laws
laws = record {
  begins = λ H a h z. well_laid H a null (begin H a h z);
  clears = λ H H' a v p go ok c. well_laid H' a _ (edits.clear H H' a v p go (sound H a v ok) c);
  inits_beside = λ H H' a a' v p t x sh go ok e c. well_laid H' a' _ (blanks.init H H' a a' v p _ sh go (sound H a v ok) e (blanks.beside_new H H' a a' _ _ t x sh c));
  inits_behind = λ H H' a a' v p s q x sh go ok e c. well_laid H' a' _ (blanks.init H H' a a' v p _ sh go (sound H a v ok) e (blanks.behind_new H H' a a' _ _ s q x sh c));
  renumbers = λ H H' a v p sh dat dat' kid go ok e c. well_laid H' a _ (edits.renumber H H' a v p sh dat dat' kid go (sound H a v ok) e c);
  writes = λ H a v p sh dat kid i k x go ok e hi hk hx wide. well_laid _ a _ (numbers.write H a v p sh dat kid i k x go (sound H a v ok) e hi hk hx wide);
  moves_null = λ H H' a g w G W e k. transfers.transfer_null H H' a g w G W e k;
  copies_far = λ H H' a g w G W sh dat kid f k e. transfers.transfer_far H H' a g w G W sh dat kid f k e;
  aims_near = λ H H' a a' g w W sh dat kid f n s k e. transfers.transfer_near H H' a a' g w W sh dat kid f n s k e;
  moves_empty = λ H H' a a' g w G W sh dat kid f s k h e. transfers.transfer_empty H H' a a' g w G W sh dat kid f s k h e;
  pads_once = λ H H' a a' g w G W q sh dat kid f n s i e k. transfers.transfer_pad H H' a a' g w G W q sh dat kid f n s i e k;
  pads_twice = λ H H' a a' g w G W s q sh dat kid f n m i e k j. transfers.transfer_double H H' a a' g w G W s q sh dat kid f n m i e k j;
  opens = λ H H' a a' v p sh dat kid l sh' go ok e c. relocate.open_object H a v p sh dat kid go (sound H a v ok) e l sh' H' a' c;
  transfers = λ H H' a a' base r p at kid i j G W s q n ok hi hj held unused c. moves.transfer H H' a a' base r p at kid ok i j hi hj G W s q n held unused c;
  closes = λ H H₁ H' a a' v p sh dat kid l sh' go ok e laid c. well_laid H' a' _ (relocate.close_object H a v p sh dat kid go (sound H a v ok) e l sh' H₁ H' a' laid c);
  one_value = λ H a b v u g w s t. decoding.unique H a b v u g w s t;
  decoded = λ H a v d ok. decoding.decodes 64 H a v 0 0 d ok.shown;
}

pub zeroing : ZeroingWalks
zeroing = record {
  starts = λ H₀ g w sh dat kid. wipe.stack_first H₀ g w (object sh dat kid) H₀ sh dat kid refl (wipe.wipe_start H₀ g w (object sh dat kid));
  passes = λ H₀ g w u H b c sh kid i j fs hi hj e. wipe.stack_null H₀ g w u H b c sh kid i fs j hi hj e;
  descends = λ H₀ g w u H b c sh kid i j fs sh' dat' kid' hi hj e. wipe.stack_down H₀ g w u H b c sh kid i fs j sh' dat' kid' hi hj e;
  still_shows = λ H₀ g w u H b c sh kid i j fs a hi hj ok s. wipe.stack_shows H₀ g w u H b c sh kid i fs a j hi hj ok s;
  turns = λ H₀ g w u H b c sh kid i fs. wipe.stack_row H₀ g w u H b c sh kid i fs;
  ascends = λ H₀ g w u H H' b c sh kid fs once zero same. wipe.stack_up H₀ g w u H b c sh kid 0 fs H' once zero same;
  ends = λ H H₁ H' g w u ok once z same. wipe.wipe_cleared H g w u H₁ H' ok once z same;
}
