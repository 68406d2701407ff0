-- Document 01's four traps and the cases of C-12, C-14, C-20 and C-24, computed.
use mathlib.Core.Path.{refl}
use Rattle.model.specs.RepairedSettings.{AdjustmentActs}
use Rattle.model.specs.Examples.{DirtyThoughUndone, EqualWriteKeepsGap, MessageWithoutOrder, ArmedSecondOnce, SameAmountForBoth, HeatingGivesWay, FirstRecordIsCoolings, PanelMovedBoth, TakenAs, FirstClampsAlone, ServedSidesAlone, DefaultsRepaired, DefaultsAsDelivered, PlantsMonday, OtherHoursIdle, EntryClipped}
use Rattle.model.specs.Everything.{everything}

pub dirty_though_undone : DirtyThoughUndone
unfolding everything
dirty_though_undone = (refl, refl, refl)

pub equal_write_keeps_gap : EqualWriteKeepsGap
unfolding everything
equal_write_keeps_gap = (refl, refl)

pub message_without_order : MessageWithoutOrder
unfolding everything
message_without_order = (refl, refl)

pub armed_second_once : ArmedSecondOnce
unfolding everything
armed_second_once = (refl, refl, refl)

pub adjustment_acts : AdjustmentActs
unfolding everything
adjustment_acts = (refl, refl, refl)

pub same_amount_for_both : SameAmountForBoth
unfolding everything
same_amount_for_both = (refl, refl, refl)

pub heating_gives_way : HeatingGivesWay
unfolding everything
heating_gives_way = (refl, refl, refl, refl, refl, refl)

pub first_record_is_coolings : FirstRecordIsCoolings
unfolding everything
first_record_is_coolings = (refl, refl)

pub panel_moved_both : PanelMovedBoth
unfolding everything
panel_moved_both = (refl, refl, refl, refl, refl)

pub taken_as : TakenAs
unfolding everything
taken_as = (refl, refl, refl, refl, refl, refl)

pub first_clamps_alone : FirstClampsAlone
unfolding everything
first_clamps_alone = (refl, refl, refl, refl, refl, refl, refl)

pub served_sides_alone : ServedSidesAlone
unfolding everything
served_sides_alone = (refl, refl, refl, refl, refl, refl, refl)

pub defaults_repaired : DefaultsRepaired
unfolding everything
defaults_repaired = (refl, refl, refl, refl, refl, refl, refl, refl, refl, refl, refl)

pub defaults_as_delivered : DefaultsAsDelivered
unfolding everything
defaults_as_delivered = (refl, refl, refl)

pub plants_monday : PlantsMonday
unfolding everything
plants_monday = (refl, refl, refl, refl, refl, refl, refl, refl)

pub other_hours_idle : OtherHoursIdle
unfolding everything
other_hours_idle =
    ((refl, refl, refl, refl, refl), (refl, refl, refl, refl, refl), (refl, refl, refl, refl, refl), (refl, refl, refl, refl, refl))

pub entry_clipped : EntryClipped
unfolding everything
entry_clipped = (refl, refl)
