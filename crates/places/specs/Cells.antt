-- One place of a slow chip, and what a strike makes of it.
use Rattle.std.specs.Prelude.{ℕ, ◌+◌, min, Bool, cond, List, map, ◌==◌, bit_and, nat_lt}
use Rattle.std.specs.List.{list_all}
use Rattle.places.specs.declared.place.Place.{Place}

-- A program count begins anew with each erase strike, an erase count with each program strike.
pub record Cell : Type 0 where
  pub E : ℕ
  pub R : ℕ
  pub P : ℕ
  pub program_delay : ℕ
  pub erase_delay : ℕ
  pub program_count : ℕ
  pub erase_count : ℕ

abbrev pub cell : Place → Cell
cell p = record {
  E = p.erase;
  R = p.read;
  P = p.program;
  program_delay = p.program_strikes.delay;
  erase_delay = p.erase_strikes.delay;
  program_count = p.program_strikes.count;
  erase_count = p.erase_strikes.count;
}

abbrev pub cells : List Place → List Cell
cells ps = map cell ps

-- A new place, for these delays: all bytes FFh, both counts 0.
abbrev pub made_cell : ℕ → ℕ → Cell
made_cell p e = record { E = 0xFF; R = 0xFF; P = 0xFF; program_delay = p; erase_delay = e; program_count = 0; erase_count = 0 }

-- The same with the delays of c.
abbrev pub refreshed : Cell → Cell
refreshed c = made_cell c.program_delay c.erase_delay

-- A count stops at 65,535.
abbrev pub more : ℕ → ℕ
more n = min (n + 1) 65535

-- A program strike: the place counts it first. E and R follow from the delay on, P only past it.
abbrev pub programmed : ℕ → Cell → Cell
programmed d c = record {
  E = cond (nat_lt (more c.program_count) c.program_delay) c.E (bit_and c.E d);
  R = cond (nat_lt (more c.program_count) c.program_delay) c.R (bit_and c.R d);
  P = cond (nat_lt c.program_delay (more c.program_count)) (bit_and c.P d) c.P;
  program_delay = c.program_delay;
  erase_delay = c.erase_delay;
  program_count = more c.program_count;
  erase_count = 0;
}

-- An erase strike, likewise: R and P follow from the delay on, E only past it.
abbrev pub erased : Cell → Cell
erased c = record {
  E = cond (nat_lt c.erase_delay (more c.erase_count)) 0xFF c.E;
  R = cond (nat_lt (more c.erase_count) c.erase_delay) c.R 0xFF;
  P = cond (nat_lt (more c.erase_count) c.erase_delay) c.P 0xFF;
  program_delay = c.program_delay;
  erase_delay = c.erase_delay;
  program_count = 0;
  erase_count = more c.erase_count;
}

-- Is every place at zero under program margin?
abbrev pub zeroed : List Cell → Bool
zeroed cs = list_all (λ c. c.P == 0) cs

-- A place beyond the table is read as a new one.
abbrev pub beyond : Cell
beyond = made_cell 0 0
