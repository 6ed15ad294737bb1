use Rattle.std.proofs.Common.{◌≡◌, refl, ap, ◌∙◌, [], ◌∷◌, ◌++◌, take, drop, get_or, append_assoc, rules}
use Rattle.dots.specs.Dot.{no_dot}
use Rattle.std.proofs.lemmas.Grind.{put_two}
use Rattle.clocks.specs.Text.{item, items, text}
use Rattle.clocks.proofs.TextFacts.{item_written, items_none, items_one, walked_dots, text_end}
use Rattle.clocks.proofs.text.VClockDisplay.fmt.Goals as goal

pub loop-i-init : goal.loop-i-init
loop-i-init g c = λ p. (60 ∷ [], c.in_ok-write.ensures.writes p refl, refl)

pub loop-i-preserved : goal.loop-i-preserved
loop-i-preserved g c = λ p.
    let i = c.loop-i.invariant p in
    let w = c.in_ok-write-2.ensures.writes i.1.plain refl in
    let ds = take c.min.result c.args.self.now.dots in
    let d = get_or ds c.loop-i.i no_dot in
    let one = item_written c.loop-i.i d _ c.before-in-loop-i.ensures (search rules) (search rules) in
    (i.0 ++ item c.loop-i.i d, put_two _ _ _ _ _ _ _ i.1 w (ap (λ xs. i.0 ++ xs) one), append_assoc i.0 _ _ ∙ rw (items_one c.loop-i.i ds c.loop-i-test.true) at i.2)

pub returns-clause-writes : goal.returns-clause-writes
unfolding text
returns-clause-writes g c = λ p ok.
    let i = c.loop-i.invariant p in
    let w = c.write-2.ensures.writes i.1.plain ok in
    let ds = take c.min.result c.args.self.now.dots in
    let none : items c.loop-i.i (drop c.loop-i.i ds) ≡ [] = items_none c.loop-i.i ds c.loop-i-test.false in
    put_two _ _ _ _ _ _ _ i.1 w (text_end c.args.self.now ds i.0 (walked_dots _ _ (search rules) c.min.ensures) none i.2)
