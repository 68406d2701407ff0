-- The numbers of the labels, and so their rows in the table.
use Rattle.std.specs.Prelude.{ℕ}
use Rattle.text.specs.declared.labels.Label.{Label}
use Rattle.text.specs.declared.labels.Label.TheVariants.{Nothing, Heating, Cooling, MinHeat, MaxHeat, MinCool, MaxCool, Mode, Dirty, Pending, Shadow, Last, Source, Amount, Timestamp, Attributed, Armed, Order, Notices, Events, Deadline, Cut, SystemModeChange, LocalTemperatureChange, SetpointChange, RunningStateChange, RunningModeChange, Close, Comma, Semicolon, Slash, Ok, Error, Newline}

unfoldable pub number : Label → ℕ
number Nothing = 0
number Heating = 1
number Cooling = 2
number MinHeat = 3
number MaxHeat = 4
number MinCool = 5
number MaxCool = 6
number Mode = 7
number Dirty = 8
number Pending = 9
number Shadow = 10
number Last = 11
number Source = 12
number Amount = 13
number Timestamp = 14
number Attributed = 15
number Armed = 16
number Order = 17
number Notices = 18
number Events = 19
number Deadline = 20
number Cut = 21
number SystemModeChange = 22
number LocalTemperatureChange = 23
number SetpointChange = 24
number RunningStateChange = 25
number RunningModeChange = 26
number Close = 27
number Comma = 28
number Semicolon = 29
number Slash = 30
number Ok = 31
number Error = 32
number Newline = 33
