-- Sizes of the image that is damaged; src/main.rt says what each is. Assumes nothing.
use Rattle.std.specs.Prelude.{ℕ, ◌-◌}

abbrev pub damaged_size : ℕ
damaged_size = 589

abbrev pub stretch_count : ℕ
stretch_count = damaged_size - 4 - 3
