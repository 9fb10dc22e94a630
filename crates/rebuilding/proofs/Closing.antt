-- The old object is zeroed, then the slot leads to the larger one.
use Rattle.std.proofs.Common.{◌≡◌, ℕ, ◌<◌, false, List, map, length, sym, refl, ap, ◌∙◌, subst}
use Rattle.tree.specs.Value.{Shape, change}
use Rattle.tree.specs.Shows.{Memory, Landing}
use Rattle.table.specs.Segments.{Table, allocated_in}
use Rattle.law.specs.Machine.{too_large}
use Rattle.law.specs.Exact.{slot_word, closed}
use Rattle.law.specs.Law.{Offers, State, memory}
use Rattle.objects.specs.Rooms.{RoomThere}
use Rattle.layout.specs.Clears.{Empties}
use Rattle.effects.specs.States.{Sized, Rewritten}
use Rattle.effects.proofs.Writing.{rewritten_sized}
use Rattle.rebuilding.specs.Steps.{Closes}

-- m is without the old object, K has the slot
pub closed_old : (b m : State) (K : Memory) (g w : ℕ) (l : Landing) (sh : Shape) (s t : ℕ) (sh' : Shape) → Rewritten b m → Empties (memory b) (memory m) l sh →
    (Sized m → too_large sh' ≡ false → w < allocated_in m.table g → RoomThere m.table g s t sh' → K ≡ change (memory m) g w (slot_word g w s t sh')) →
    Closes b g w l sh s t sh' → K ≡ closed (memory b) g w l sh s t sh'
closed_old b m K g w l sh s t sh' r empty aim k =
    aim (rewritten_sized b m r k.sized) k.fits
    (subst (λ (z : Table). w < allocated_in z g) (sym r.same_table) k.inside)
    (subst (λ (z : Table). RoomThere z g s t sh') (sym r.same_table) k.room) ∙
    ap (λ (H : Memory). change H g w (slot_word g w s t sh')) (empty k.first k.described k.low k.low_pads k.few_pads)

-- zeroing rewrites words
pub zeroed_state : (m n : List (List ℕ)) (o o' f f' : Offers) (t : Table) → map length n ≡ map length m → o' ≡ o → f' ≡ f →
    Rewritten (record { source = record { segments = m; offers = o; first_offers = f }; table = t }) (record { source = record { segments = n; offers = o'; first_offers = f' }; table = t })
zeroed_state m n o o' f f' t a b c = record { same_lengths = a; same_offers = b; same_first = c; same_table = refl }
