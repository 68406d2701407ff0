-- Document 01, Causes and answers: the number of each row's refusal, and of none.
use Rattle.std.specs.Prelude.{ℕ, ⊤, Result, Ok, Err}
use Rattle.records.specs.declared.refusal.Refusal.{Refusal}
use Rattle.records.specs.declared.refusal.Refusal.TheVariants.{Revision, UnknownFeature, NoSide, AutoWithoutBothSides, AttributeMissing, AttributeWithoutFeature, LimitsIncomplete, LimitsWithoutSide, LimitsOfOneSide, RunningModeWithoutAuto, EventUnknown, EventWithoutFeature, EventNotApplicable, EventMissing, NegativeDelta, NoRaiseLower, HeatRangeEmpty, CoolRangeEmpty, NegativeDeadBand, AbsLimitsTooClose, SequenceMismatch, OutsideRule, AbsentSide, UnservedAttribute, UnknownRaiseLowerMode, UnsupportedMode, ClockTooLate, UnsoundRecord, HourOutsideWeek}

unfoldable pub number : Refusal → ℕ
number Revision = 1
number UnknownFeature = 2
number NoSide = 3
number AutoWithoutBothSides = 4
number AttributeMissing = 5
number AttributeWithoutFeature = 6
number LimitsIncomplete = 7
number LimitsWithoutSide = 8
number LimitsOfOneSide = 9
number RunningModeWithoutAuto = 10
number EventUnknown = 11
number EventWithoutFeature = 12
number EventNotApplicable = 13
number EventMissing = 14
number NegativeDelta = 15
number NoRaiseLower = 16
number HeatRangeEmpty = 17
number CoolRangeEmpty = 18
number NegativeDeadBand = 19
number AbsLimitsTooClose = 20
number SequenceMismatch = 21
number OutsideRule = 22
number AbsentSide = 23
number UnservedAttribute = 24
number UnknownRaiseLowerMode = 25
number UnsupportedMode = 26
number ClockTooLate = 27
number UnsoundRecord = 28
number HourOutsideWeek = 32

-- the number of a refusal, and where there is none that of what is tested after it
unfoldable pub number_or : Result ⊤ Refusal → ℕ → ℕ
number_or (Ok done) rest = rest
number_or (Err r) rest = number r
