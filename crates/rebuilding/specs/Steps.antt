-- What the steps of a rebuild ask for.
use Rattle.std.specs.Prelude.{◌≡◌, ℕ, ◌^◌, ◌<◌, ◌≤◌, false, ◌≢◌}
use Rattle.tree.specs.Value.{Shape}
use Rattle.tree.specs.Shows.{Landing, Describes}
use Rattle.table.specs.Segments.{allocated_in}
use Rattle.law.specs.Machine.{too_large}
use Rattle.law.specs.Law.{State, memory}
use Rattle.objects.specs.Rooms.{RoomThere}
use Rattle.effects.specs.States.{Sized}
use Rattle.widen.specs.Numbers.{Copies}

-- Since the mark, room was taken in the state b for an object of the shape sh' in word t of segment s, and for a pad before it if the
-- slot is in another segment g; no word was written. The object that lay at the mark by l in the shape sh can be copied there.
pub record Opens (mark b : State) (g : ℕ) (l : Landing) (sh : Shape) (s t : ℕ) (sh' : Shape) : Type 0 where
  pub copies : Copies mark b l sh s t sh'
  pub same_words : memory b ≡ memory mark
  pub room : RoomThere b.table g s t sh'
  pub new_pad : (s ≢ g) → allocated_in mark.table s < t
  pub fits : too_large sh' ≡ false

-- In the state b the object of the shape sh lies by l, and the slot (g, w) can lead to word t of segment s, where one of the shape sh' is.
pub record Closes (b : State) (g w : ℕ) (l : Landing) (sh : Shape) (s t : ℕ) (sh' : Shape) : Type 0 where
  pub sized : Sized b
  pub first : ℕ
  pub described : Describes l.said first sh
  pub low : l.pos < 2 ^ 32
  pub low_pads : l.pad_pos < 2 ^ 32
  pub few_pads : l.pad_len ≤ 2
  pub inside : w < allocated_in b.table g
  pub room : RoomThere b.table g s t sh'
  pub fits : too_large sh' ≡ false
