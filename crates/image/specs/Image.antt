-- What the check of an image answers: "the lent image is exactly its total length", and all of well-formed.
use Rattle.std.specs.Prelude.{ℕ, Bool, List, [], ◌∷◌, Option, Result, ⊤, eqb, length, replicate}
use Rattle.std.specs.Bool.{then_some}
use Rattle.std.proofs.lemmas.List.Edits.{sets}
use Rattle.tables.specs.Table.{pick}
use Rattle.dots.specs.declared.refusals.Refused.{Refused}
use Rattle.dots.specs.Answers.{answer}
use Rattle.clocks.specs.declared.VClock.{VClock}
use Rattle.clocks.specs.VClock.{vclock}
use Rattle.layout.specs.Clock.{clock_end}
use Rattle.layout.specs.Rows.{places_at, rows_end_at, wait_places_at, waits_end_at}
use Rattle.layout.specs.Image.{entries_start, entries_count, waits_start_at, waits_count, image_of, good_image}
use Rattle.layout.specs.Good.{chain, good_contents, good_clock, good_waits}
use Rattle.scan.specs.Scan.{laid_rows}
use Rattle.image.specs.declared.Image.{Image}

-- the clock, how many entries and waiting removes there are, and where each stands
unfoldable pub image_of_bytes : List ℕ → Image
image_of_bytes s = record {
  clock = vclock (image_of s).clock;
  entries = entries_count s;
  places = sets (replicate 64 0) 0 (places_at s (entries_start s) (entries_count s));
  waits = waits_count s;
  starts = sets (replicate 16 0) 0 (wait_places_at s (waits_start_at s) (waits_count s));
}

unfoldable pub check_image : List ℕ → Option Image
check_image s = then_some (good_image s) (image_of_bytes s)

-- the parts alone, one after the other up to the end, without what entries owe to the clock, which they rise by, and to the waiting removes
abbrev pub laid_parts_tests : List ℕ → List Bool
laid_parts_tests s =
    good_contents s ∷ good_clock s 24 ∷ eqb (entries_start s) (clock_end s 24) ∷ laid_rows s (entries_start s) 0 (entries_count s)
    ∷ eqb (waits_start_at s) (rows_end_at s (entries_start s) (entries_count s)) ∷ good_waits s (waits_start_at s) [] (waits_count s) ∷ []

unfoldable pub laid_parts : List ℕ → Bool
laid_parts s = chain (laid_parts_tests s) (eqb (waits_end_at s (waits_start_at s) (waits_count s)) (length s))

unfoldable pub parts_image : List ℕ → Option Image
parts_image s = then_some (laid_parts s) (image_of_bytes s)

-- ---- the calls

-- "1: the first replica isn't a well-formed image"
unfoldable pub check_call : List ℕ → Result ⊤ Refused
check_call s = answer (pick (good_image s) 0 1) tt

unfoldable pub clock_call : List ℕ → Result VClock Refused
clock_call s = answer (pick (good_image s) 0 1) (vclock (image_of s).clock)
