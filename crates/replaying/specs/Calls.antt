-- Calls and answers as the law has them.
use Rattle.std.specs.Prelude.{ℕ, List, [], Ok, Err, Result, map, vec_items}
use Rattle.std.proofs.Common.{of_z}
use Rattle.std.specs.Int.{w32}
use Rattle.message.specs.declared.refusal.Refused.{Refused}
use Rattle.message.specs.declared.refusal.Refused.TheVariants as refuseds
use Rattle.message.specs.Refusals.{shape_placed, pair_placed}
use Rattle.number.specs.declared.kind.Kind.{Kind}
use Rattle.number.specs.declared.kind.Kind.TheVariants as kinds
use Rattle.number.specs.declared.kind.Value.{Value}
use Rattle.number.specs.declared.kind.Value.TheVariants as numbers
use Rattle.number.specs.Kinds.{kind_of}
use Rattle.wire.specs.Elements.{bit_of}
use Rattle.law.specs.Calls.{write, value, done, refused}
use Rattle.law.specs.Reads.{number, shape}
use Rattle.law.specs.Law as law
use Rattle.path.specs.declared.step.Step.{Step}
use Rattle.walk.specs.Slots.{steps_of}
use Rattle.judging.specs.Rulings.{home_of, answer_of}
use Rattle.judging.specs.Replies.{sizes_meant}
use Rattle.deciding.specs.declared.edit.Edit.TheVariants as edits
use Rattle.deciding.specs.Edits.{edit_of}
use Rattle.sessions.specs.Sessions.{Deed, edit, ask}
use Rattle.replaying.specs.declared.calls.Action.{Action}
use Rattle.replaying.specs.declared.calls.Action.TheVariants.{Edit, Text, Set, Get, Sizes}
use Rattle.replaying.specs.declared.calls.Call.{Call}
use Rattle.replaying.specs.declared.reply.Answer.{Answer}
use Rattle.replaying.specs.declared.reply.Answer.TheVariants as answers
use Rattle.replaying.specs.declared.reply.Refusal.{Refusal}
use Rattle.replaying.specs.declared.reply.Refusal.TheVariants.{Ruled, Crowded}

-- the element code of numbers of a kind
abbrev pub code_of_kind : Kind → ℕ
code_of_kind kinds.Void = 0
code_of_kind kinds.Bool = 1
code_of_kind kinds.U8 = 2
code_of_kind kinds.U16 = 3
code_of_kind kinds.U32 = 4
code_of_kind kinds.U64 = 5
code_of_kind kinds.I32 = 4

-- the element code of a number, and its bits
abbrev pub code_in : Value → ℕ
code_in n = code_of_kind (kind_of n)

abbrev pub bits_in : Value → ℕ
bits_in numbers.Void = 0
bits_in (numbers.Bool b) = bit_of b
bits_in (numbers.U8 n) = n
bits_in (numbers.U16 n) = n
bits_in (numbers.U32 n) = n
bits_in (numbers.U64 n) = n
bits_in (numbers.I32 n) = of_z w32 n

-- ## Calls

abbrev pub deed_at : List Step → Action → Deed
deed_at ss (Edit e) = edit (record { path = steps_of ss; edit = edit_of e [] })
deed_at ss (Text bytes) = edit (record { path = steps_of ss; edit = edit_of edits.Text (vec_items bytes) })
deed_at ss (Set at n) = edit (record { path = steps_of ss; edit = write (home_of at.home) (code_in n) at.index (bits_in n) })
deed_at ss (Get at k) = ask (steps_of ss) (number (home_of at.home) (code_of_kind k) at.index)
deed_at ss Sizes = ask (steps_of ss) shape

abbrev pub deed_of : Call → Deed
deed_of c = deed_at (vec_items c.path) c.action

abbrev pub deeds_of : List Call → List Deed
deeds_of = map deed_of

-- ## Answers

-- the refusal without the source's own fault
abbrev pub refused_as : {F : Type 0} → Refused F → Refusal
refused_as (refuseds.Ruled y) = Ruled y
refused_as (refuseds.Crowded y) = Crowded y.minimum

abbrev pub reply_of : Result Answer Refusal → law.Reply
reply_of (Ok (answers.Placed o)) = record { says = sizes_meant (shape_placed o); minimum = 0; pair = pair_placed o }
reply_of (Ok answers.Done) = record { says = done; minimum = 0; pair = (0, 0) }
reply_of (Ok (answers.Value n)) = record { says = value (bits_in n); minimum = 0; pair = (0, 0) }
reply_of (Ok (answers.Sizes o)) = record { says = sizes_meant o; minimum = 0; pair = (0, 0) }
reply_of (Err (Ruled y)) = record { says = answer_of y; minimum = 0; pair = (0, 0) }
reply_of (Err (Crowded m)) = record { says = refused 11; minimum = m; pair = (0, 0) }

abbrev pub replies_of : List (Result Answer Refusal) → List law.Reply
replies_of = map reply_of
