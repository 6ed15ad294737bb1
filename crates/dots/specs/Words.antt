-- What a refusal reads as, in bytes. `codes` gives the bytes of a text, `decimal` those that a format writes of a number.
use Rattle.std.specs.Prelude.{ℕ, List, ◌++◌, codes, decimal}
use Rattle.dots.specs.declared.refusals.Refused.{Refused}
use Rattle.dots.specs.declared.refusals.Refused.TheVariants.{BadImage, BadSecond, BadClock, LongList, LastCounter, ManyActors, ManyEntries, ManyWaits, ManyNamed, ShortOutput}
use Rattle.dots.specs.declared.refusals.OpRefused.{OpRefused}
use Rattle.dots.specs.declared.refusals.OpRefused.TheVariants.{Refused as RefusedWith, Gap}

abbrev pub refused_text : Refused → List ℕ
refused_text BadImage = codes "the image is not one of a replica"
refused_text BadSecond = codes "the second image is not one of a replica"
refused_text BadClock = codes "a clock is not normalised or has over 16 actors"
refused_text LongList = codes "a list of members is too long"
refused_text LastCounter = codes "the last counter has no successor"
refused_text ManyActors = codes "the clock would have over 16 actors"
refused_text ManyEntries = codes "the replica would have over 64 entries"
refused_text ManyWaits = codes "over 16 removes would wait"
refused_text ManyNamed = codes "the waiting removes would name too many members"
refused_text ShortOutput = codes "the output is too short"

-- a refusal of an operation reads as the refusal; a gap's missing dots as a range, whose end isn't in it
abbrev pub op_refused_text : OpRefused → List ℕ
op_refused_text (RefusedWith r) = refused_text r
op_refused_text (Gap g) = codes "dots " ++ decimal g.start ++ codes ".." ++ decimal g.end ++ codes " of actor " ++ decimal g.actor.0 ++ codes " are missing"
