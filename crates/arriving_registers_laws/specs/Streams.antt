-- What has arrived of the measured streams of an image, and the defined state of given bytes (FORMAT.md, Registers and Check while it arrives).
use Rattle.std.specs.Prelude.{ℕ, List, []}
use Rattle.octets.specs.Logic.{choose}
use Rattle.eif.specs.Numbers.{place_count}
use Rattle.eif.specs.Layout.{kind_at}
use Rattle.eif.specs.Stream.{keeps}
use Rattle.eif.specs.Table.{join_from}
use Rattle.eif.specs.declared.Stream.{Stream}
use Rattle.eif.specs.declared.Stream.TheVariants.{Whole, Boot, App}
use Rattle.sha384.specs.State.{state_after}
use Rattle.sha384.specs.declared.State.{State}
use Rattle.arriving.specs.State.{state_of}
use Rattle.arriving_sections_laws.specs.Given.{data_so_far}
use Rattle.arriving_registers.specs.Measuring.{ramdisks_at, streams_of, measuring_of}
use Rattle.arriving_registers.specs.declared.Measuring.{Measuring}
use Rattle.arriving_registers.specs.declared.Streams.{Streams}

-- the data that has arrived of section i, if the stream contains that section
unfoldable pub measured_so_far : Stream → List ℕ → ℕ → List ℕ
measured_so_far stream s i = choose (keeps stream (kind_at s i) (ramdisks_at (kind_at s) i)) (data_so_far s i) []

-- what has arrived of a stream
unfoldable pub stream_so_far : List ℕ → Stream → List ℕ
stream_so_far s stream = join_from (measured_so_far stream s) place_count 0

abbrev pub digest_so_far : List ℕ → Stream → State
digest_so_far s stream = state_after (stream_so_far s stream)

unfoldable pub digests_so_far : List ℕ → Streams
digests_so_far s = streams_of (digest_so_far s Whole) (digest_so_far s Boot) (digest_so_far s App)

-- the defined state of the bytes taken
abbrev pub measured_of : List ℕ → Measuring
measured_of s = measuring_of (state_of s) (digests_so_far s)
