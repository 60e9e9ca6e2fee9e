-- The numbers that 01 and 02 give to the refusals.
use Rattle.std.specs.Prelude.{ℕ, Result, Ok, Err}
use Rattle.refusals.specs.declared.TableFault.{TableFault}
use Rattle.refusals.specs.declared.TableFault.TheVariants.{TooLong, CutShort, OutOfOrder, OutsideLimits, Unknown, StartAttributes, WrongSide, NotOneRule, ReadsAhead, LowAboveHigh, Useless, LeftRecursive, Clash, NoProduction}
use Rattle.refusals.specs.declared.Refusal.{Refusal}
use Rattle.refusals.specs.declared.Refusal.TheVariants.{UnknownToken, UnexpectedToken, ConditionFalse, ValueOutside, OverTooEarly, AreaShort, NoRegister, NoPlace, Closed, Unfit, LimitReached, BufferShort, Unsuited, UnequalLists, ScratchShort, Waiting, SheetShort, WindowUnfit, SheetWrong}
use Rattle.refusals.specs.declared.CallRefusal.{CallRefusal}
use Rattle.refusals.specs.declared.CallRefusal.TheVariants.{OfCall, OfTable}

abbrev pub fault_number : TableFault → ℕ
fault_number TooLong = 1
fault_number CutShort = 2
fault_number OutOfOrder = 3
fault_number OutsideLimits = 4
fault_number Unknown = 5
fault_number StartAttributes = 6
fault_number WrongSide = 7
fault_number NotOneRule = 8
fault_number ReadsAhead = 9
fault_number LowAboveHigh = 10
fault_number Useless = 11
fault_number LeftRecursive = 12
fault_number Clash = 13
fault_number NoProduction = 14

abbrev pub refusal_number : Refusal → ℕ
refusal_number UnknownToken = 20
refusal_number UnexpectedToken = 21
refusal_number ConditionFalse = 22
refusal_number ValueOutside = 23
refusal_number OverTooEarly = 24
refusal_number AreaShort = 30
refusal_number NoRegister = 31
refusal_number NoPlace = 32
refusal_number Closed = 33
refusal_number Unfit = 34
refusal_number LimitReached = 35
refusal_number BufferShort = 36
refusal_number Unsuited = 37
refusal_number UnequalLists = 38
refusal_number ScratchShort = 39
refusal_number Waiting = 40
refusal_number SheetShort = 41
refusal_number WindowUnfit = 42
refusal_number SheetWrong = 43

-- the number of what a judgement found wrong; 0 where it found nothing
abbrev pub fault_or_zero : {A : Type 0} → Result A TableFault → ℕ
fault_or_zero (Ok _) = 0
fault_or_zero (Err f) = fault_number f

abbrev pub refusal_or_zero : {A : Type 0} → Result A Refusal → ℕ
refusal_or_zero (Ok _) = 0
refusal_or_zero (Err r) = refusal_number r

-- the number and the offset of what turns a call back; a call's own refusal has the offset 0
abbrev pub call_number : CallRefusal → ℕ
call_number (OfCall r) = refusal_number r
call_number (OfTable t) = fault_number t.fault

abbrev pub call_offset : CallRefusal → ℕ
call_offset (OfCall r) = 0
call_offset (OfTable t) = t.offset
