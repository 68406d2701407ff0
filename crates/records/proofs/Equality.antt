-- The derived equality of settings is that of the definitions.
use Rattle.std.specs.Prelude.{◌≡◌, Bool, ◌&&◌, eqb}
use Rattle.std.proofs.Common.{◌∙◌}
use Rattle.std.proofs.Math.Bool.{and_assoc}
use Rattle.units.specs.Units.{equal}
use Rattle.units.specs.declared.Hundredths.{Hundredths}
use Rattle.units.specs.contracts.HundredthsPartialEq.TheImpl.{ghosts as hundredths}
use Rattle.units.proofs.Comparisons.{same}
use Rattle.records.specs.Records.{same_settings}
use Rattle.records.specs.declared.Settings.{Settings}
use Rattle.records.specs.contracts.SettingsPartialEq.TheImpl.{ghosts as settings}

regrouped : (a b c d e f g : Bool) → (a && (b && (c && (d && (e && (f && g)))))) ≡ ((a && b) && (((c && d) && (e && f)) && g))
regrouped a b c d e f g = simp and_assoc

pub settings_equal : (s t : Settings) → settings.eq s t ≡ same_settings s t
unfolding same_settings
settings_equal s t =
    let eq : Hundredths → Hundredths → Bool = hundredths.eq in
    let by_fields :
    (eq s.heating t.heating && (eq s.cooling t.cooling && (eq s.minheat t.minheat && (eq s.maxheat t.maxheat && (eq s.mincool t.mincool && (eq s.maxcool t.maxcool && eqb s.mode t.mode))))))
    ≡ (equal s.heating t.heating && (equal s.cooling t.cooling && (equal s.minheat t.minheat && (equal s.maxheat t.maxheat && (equal s.mincool t.mincool && (equal s.maxcool t.maxcool && eqb s.mode t.mode)))))) =
    simp (same s.heating t.heating, same s.cooling t.cooling, same s.minheat t.minheat, same s.maxheat t.maxheat, same s.mincool t.mincool, same s.maxcool t.maxcool) in
    by_fields ∙ regrouped (equal s.heating t.heating) (equal s.cooling t.cooling) (equal s.minheat t.minheat) (equal s.maxheat t.maxheat) (equal s.mincool t.mincool) (equal s.maxcool t.maxcool) (eqb s.mode t.mode)
