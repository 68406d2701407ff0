-- C-17: computed once over the whole table, then carried to each row.
use mathlib.Core.Path.{◌≡◌, refl, sym, ap, ◌∙◌}
use lib.ListN.{get_or-map}
use Rattle.std.proofs.Common.{ℕ, ◌+◌, ◌<◌, ◌≤◌, List, [], ◌++◌, get_or, drop, add-one, drop-cons, drop_of_length-le}
use Rattle.model.specs.Sweep.{notice_row, notice_table, row_notices, table_notices}
use Rattle.records.specs.declared.Config.{Config}
use Rattle.records.specs.declared.NoticeRow.{NoticeRow}
use Rattle.sweep_notices.specs.NoticeTable.{bit_of, row_of, notice_codes, TableFromCodes}

pub table_from_codes : TableFromCodes
unfolding bit_of
table_from_codes = refl

pub row_from_code : (i : ℕ) → row_of (get_or notice_codes i 0) ≡ get_or notice_table i (notice_row 0 0)
unfolding bit_of
row_from_code i = sym (get_or-map row_of notice_codes i 0) ∙ ap (λ (ws : List NoticeRow). get_or ws i (notice_row 0 0)) table_from_codes

-- the notices from a row on are its own, then those of the rows after it
pub from_row : (cfg : Config) (p i : ℕ) → i < 10 → table_notices cfg p (drop i notice_table) ≡ row_notices cfg p (row_of (get_or notice_codes i 0)) ++ table_notices cfg p (drop (i + 1) notice_table)
unfolding table_notices
from_row cfg p i h = rw (row_from_code, add-one, drop-cons notice_table i (notice_row 0 0))

pub past_rows : (cfg : Config) (p i : ℕ) → 10 ≤ i → table_notices cfg p (drop i notice_table) ≡ []
unfolding table_notices
past_rows cfg p i h = rw (drop_of_length-le notice_table h)
