-- Rulings and homes as the law has them.
use Rattle.std.specs.Prelude.{ℕ, Ok, Err, Result}
use Rattle.law.specs.Calls as calls
use Rattle.law.specs.Calls.{Answer, refused, nowhere}
use Rattle.judging.specs.declared.ruling.Ruling.{Ruling}
use Rattle.judging.specs.declared.ruling.Ruling.TheVariants.{BadPath, Nowhere, ListCode, EmptyPlace, LongText, NoStruct, NoList, BitList, Outside, TooLarge}
use Rattle.number.specs.declared.home.Home.{Home}
use Rattle.number.specs.declared.home.Home.TheVariants.{Field, Row, Item}

-- the number of a ruling
abbrev pub number_of : Ruling → ℕ
number_of BadPath = 1
number_of (Nowhere s) = 2
number_of ListCode = 3
number_of EmptyPlace = 4
number_of LongText = 5
number_of NoStruct = 6
number_of NoList = 7
number_of BitList = 8
number_of Outside = 9
number_of TooLarge = 10

-- 0 for none
abbrev pub ruling_of : {X : Type 0} → Result X Ruling → ℕ
ruling_of (Ok x) = 0
ruling_of (Err y) = number_of y

-- the answer to a call that meets the ruling
abbrev pub answer_of : Ruling → Answer
answer_of (Nowhere s) = nowhere s
answer_of y = refused (number_of y)

abbrev pub home_of : Home → calls.Home
home_of Field = calls.field
home_of (Row r) = calls.row r
home_of Item = calls.item
