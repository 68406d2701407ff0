-- Document 02, C-11: return to works settings. `factory_reset` of the Rust, which puts the defaults in and does not repair them.
use Rattle.std.specs.Prelude.{◌≡◌, true, false, [], ◌∷◌, ℕ, None}
use Rattle.records.specs.Records.{with_attrs, updated}
use Rattle.model.specs.Answers.{Outcome}
use Rattle.model.specs.Orders.{order_of, ask_sweep}
use Rattle.model.specs.Validation.{validation_rows, accepted}
use Rattle.model.specs.Repair.{repaired_record}
use Rattle.model.specs.RepairedSettings.{repaired_settings}
use Rattle.model.specs.Sound.{sound}
use Rattle.records.specs.declared.Config.{Config}
use Rattle.records.specs.declared.Settings.{Settings}
use Rattle.records.specs.declared.Attrs.{Attrs}
use Rattle.records.specs.declared.Controller.{Controller}

-- the defaults, put in by one store
abbrev pub defaults_taken : Config → Attrs → Attrs
defaults_taken cfg a = updated a cfg.defaults

-- the dirty mark cleared: the stored copy is deleted, so there is nothing to save
abbrev pub mark_cleared : Attrs → Attrs
mark_cleared a = record { settings = a.settings; dirty = false }

-- the notice for the whole cluster
abbrev pub whole_cluster : ℕ
whole_cluster = 0xFFFF

-- the defaults repaired, with repair's plant order; the mark is cleared last. One notice, whatever is served and whatever the relays do;
-- snapshot, last event, attribution and armed clock stay
unfoldable pub factory_reset : Config → Controller → Outcome
factory_reset cfg r =
    let o = repaired_record cfg r (defaults_taken cfg r.attrs) in
    record { number = o.number; rec = with_attrs o.rec (mark_cleared o.rec.attrs); order = o.order; notices = whole_cluster ∷ []; events = o.events; deadline = o.deadline }

-- on an accepted configuration the whole answer by formulas (C-24's): of the record before only pending bits, snapshot with last event, and attribution with armed clock are in it
abbrev pub ResetByFormula : Type 0
ResetByFormula =
    (cfg : Config) (r : Controller) → accepted cfg ≡ true →
    let s = repaired_settings cfg cfg.defaults in
    factory_reset cfg r ≡ record {
      number = 0;
      rec = ask_sweep cfg (with_attrs r (record { settings = s; dirty = false }));
      order = order_of s;
      notices = whole_cluster ∷ [];
      events = [];
      deadline = None;
    }

-- a configuration with other defaults
abbrev pub delivered : Config → Settings → Config
delivered cfg s = record {
  revision = cfg.revision;
  features = cfg.features;
  attributes = cfg.attributes;
  events = cfg.events;
  commands = cfg.commands;
  absminheat = cfg.absminheat;
  absmaxheat = cfg.absmaxheat;
  absmincool = cfg.absmincool;
  absmaxcool = cfg.absmaxcool;
  deadband = cfg.deadband;
  sequence = cfg.sequence;
  delta = cfg.delta;
  defaults = s;
}

-- rows 1 to 21 do not look at the defaults, and neither does row 28
abbrev pub DefaultsNotTested : Type 0
DefaultsNotTested = (cfg : Config) (s : Settings) → (validation_rows (delivered cfg s) ≡ validation_rows cfg) × ((r : Controller) → sound (delivered cfg s) r ≡ sound cfg r)
