-- Reasons, and what follows where there is none.
use Rattle.std.specs.Prelude.{ℕ, List, Option, Some, None, Result, Ok, Err, codes}
use Rattle.fh_document.specs.declared.refusals.DocWhy.{DocWhy}
use Rattle.fh_document.specs.declared.refusals.DocWhy.TheVariants.{NotText, FirstLine, UnknownWord, Order, Twice, Words, Number, WidthSum, MinMax, TooMany}

-- the reason where there is no value
abbrev pub or_refuse : {A : Type 0} → Option A → DocWhy → Result A DocWhy
or_refuse None why = Err why
or_refuse (Some x) why = Ok x

-- what follows on a value; the first reason stays
infixl 10 ◌>>=◌
abbrev pub ◌>>=◌ : {A B : Type 0} → Result A DocWhy → (A → Result B DocWhy) → Result B DocWhy
(Ok x) >>= next = next x
(Err why) >>= next = Err why

abbrev pub name_of : DocWhy → List ℕ
name_of NotText = codes "NotText"
name_of FirstLine = codes "FirstLine"
name_of UnknownWord = codes "UnknownWord"
name_of Order = codes "Order"
name_of Twice = codes "Twice"
name_of Words = codes "Words"
name_of Number = codes "Number"
name_of WidthSum = codes "WidthSum"
name_of MinMax = codes "MinMax"
name_of TooMany = codes "TooMany"
