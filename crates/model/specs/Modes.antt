-- Document 01, Modes and relays.
use Rattle.std.specs.Prelude.{Bool, not, ◌&&◌, ◌||◌, cond, ℕ, eqb}
use Rattle.std.specs.Int.Bits.{bit_and, bit_or}
use Rattle.model.specs.Served.{auto}
use Rattle.records.specs.declared.Config.{Config}

-- sequences: 0 and 1 cool, 2 and 3 heat, 4 and 5 do both, any other neither
unfoldable pub sequence_heats : Config → Bool
sequence_heats cfg = (eqb cfg.sequence 2 || eqb cfg.sequence 3) || (eqb cfg.sequence 4 || eqb cfg.sequence 5)

unfoldable pub sequence_cools : Config → Bool
sequence_cools cfg = (eqb cfg.sequence 0 || eqb cfg.sequence 1) || (eqb cfg.sequence 4 || eqb cfg.sequence 5)

-- Off 0 always, Auto 1 with AUTO, Cool 3 and Heat 4 if the control sequence cools or heats, all others never
unfoldable pub is_supported_system_mode : Config → ℕ → Bool
is_supported_system_mode cfg mode = (eqb mode 0 || (eqb mode 1 && auto cfg)) || ((eqb mode 3 && sequence_cools cfg) || (eqb mode 4 && sequence_heats cfg))

-- the relays that count: heat 0x01 and 0x08, cool 0x02 and 0x10 if the sequence has them, fan 0x04, 0x20 and 0x40 always
unfoldable pub relay_mask : Config → ℕ
relay_mask cfg = bit_or 0x64 (bit_or (cond (sequence_heats cfg) 0x09 0) (cond (sequence_cools cfg) 0x12 0))

unfoldable pub running_state : Config → ℕ → ℕ
running_state cfg relays = bit_and relays (relay_mask cfg)

-- of counted relays: Heat 4 if a heat bit is set, else Cool 3 if a cool bit is, else Off 0
unfoldable pub running_mode : ℕ → ℕ
running_mode counted = cond (not (eqb (bit_and counted 0x09) 0)) 4 (cond (not (eqb (bit_and counted 0x12) 0)) 3 0)
