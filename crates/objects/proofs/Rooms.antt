-- Where a new object lies, the numbers of its pointers are small enough.
use Rattle.std.proofs.Common.{◌≡◌, ℕ, ◌-◌, ◌^◌, ◌<◌, ◌≢◌, sym, ap, ◌∙◌, subst, ⊎_elim, arith}
use Rattle.std.proofs.lemmas.Bool.{cases_eq}
use Rattle.tree.specs.Value.{Shape, change}
use Rattle.tree.specs.Shows.{Memory}
use Rattle.law.specs.Exact.{tagged}
use Rattle.table.specs.declared.SegmentTable.{SegmentTable}
use Rattle.table.specs.Segments.{Table, allocated_in}
use Rattle.table.specs.Meaning.{table_of}
use Rattle.effects.proofs.Writing.{within_capacity, segment_few}
use Rattle.objects.specs.Rooms.{RoomThere}

pub places_small : (t : SegmentTable) (g w s p : ℕ) (sh : Shape) → w < allocated_in (table_of t) g → RoomThere (table_of t) g s p sh →
    (s < 2 ^ 32) × (p - 1 < 2 ^ 29)
places_small t g w s p sh h r =
    let b = within_capacity t s in
    let i = r.object_inside in (
      ⊎_elim
          (λ (e : s ≡ g). let k = segment_few t g (omega arith) in omega arith)
          (λ (n : s ≢ g). let o = r.pad_inside n in let k = segment_few t s (omega arith) in omega arith)
          (cases_eq s g),
      omega arith,
    )

pub room_same : (t u : Table) (g s p : ℕ) (sh : Shape) → u ≡ t → RoomThere t g s p sh → RoomThere u g s p sh
room_same t u g s p sh e r = subst (λ (x : Table). RoomThere x g s p sh) (sym e) r

-- what is written, by equal words
pub aimed : (H N : Memory) (g w x y : ℕ) → N ≡ change H g w x → x ≡ y → N ≡ change H g w y
aimed H N g w x y e f = e ∙ ap (change H g w) f

pub tagged_after : (H N K : Memory) (s t : ℕ) (sh : Shape) → K ≡ tagged N s t sh → N ≡ H → K ≡ tagged H s t sh
tagged_after H N K s t sh e f = e ∙ ap (λ (M : Memory). tagged M s t sh) f
