-- What a step of the console leaves of a session. Assumes nothing.
use Rattle.std.specs.Prelude.{ℕ, ◌≡◌, pos, Result, Ok, Err}
use Rattle.records.specs.Records.{zero_hundredths, zero_settings}
use Rattle.model.specs.Answers.{answer_with, answer, quiet}
use Rattle.model.specs.Removed.{opening_removed, removed}
use Rattle.model.specs.Step.{opened, step}
use Rattle.records.specs.declared.Answer.{Answer}
use Rattle.records.specs.declared.Config.{Config}
use Rattle.records.specs.declared.Controller.{Controller}
use Rattle.lines.specs.declared.Line.{Line}
use Rattle.lines.specs.declared.Line.TheVariants.{Nothing, Config as ConfigLine, Record, Open, Call as CallLine}
use Rattle.lines.specs.declared.Unreadable.{Unreadable}
use Rattle.sessions.specs.declared.Place.{Place}
use Rattle.sessions.specs.declared.session.Session.{Session}

-- how much is held of the line, and how much of the page is filled
abbrev pub Placed : Place → ℕ → ℕ → Type 0
Placed p held filled = (p.held ≡ held) × (p.filled ≡ filled)

-- the page is empty, and what the session holds is as before
abbrev pub Flushed : Session → Session → Type 0
Flushed s r = (r.page.filled ≡ 0) × (r.held ≡ s.held) × (r.config ≡ s.config) × (r.rec ≡ s.rec)

-- the configuration after a line
abbrev pub configured : Config → Result Line Unreadable → Config
configured c (Err e) = c
configured c (Ok Nothing) = c
configured c (Ok (ConfigLine given)) = given
configured c (Ok (Record given)) = c
configured c (Ok (Open a d)) = c
configured c (Ok (CallLine k d)) = c

-- the answer to a line: an opening's and a call's are the model's; a record comes in whole; any other line leaves the record
abbrev pub answered : Config → Controller → Result Line Unreadable → Answer
answered c r (Err e) = answer (quiet 0 r)
answered c r (Ok Nothing) = answer (quiet 0 r)
answered c r (Ok (ConfigLine given)) = answer (quiet 0 r)
answered c r (Ok (Record given)) = answer (quiet 0 given)
answered c r (Ok (Open a d)) = answer_with (opened c a) (opening_removed c a)
answered c r (Ok (CallLine k d)) = answer_with (step c r d k) (removed c r d k)

-- a served line: nothing of it is held, and configuration and record are those after it
abbrev pub Served : Result Line Unreadable → Session → Session → Type 0
Served line s r =
    (r.held.filled ≡ 0)
    × (r.config ≡ configured s.config line)
    × (r.rec ≡ (answered s.config s.rec line).rec)

-- all zero
abbrev pub no_config : Config
no_config = record {
  revision = 0;
  features = 0;
  attributes = 0;
  events = 0;
  commands = 0;
  absminheat = zero_hundredths;
  absmaxheat = zero_hundredths;
  absmincool = zero_hundredths;
  absmaxcool = zero_hundredths;
  deadband = record { 0 = pos 0 };
  sequence = 0;
  delta = zero_hundredths;
  defaults = zero_settings;
}
