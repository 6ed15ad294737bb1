use Rattle.std.proofs.lemmas.Result.{err_from_is_err_and}
use Rattle.std.proofs.Common.{◌≡◌, length, arith, rules}
use Rattle.clocks.specs.VClock.{few}
use Rattle.clocks.specs.Calls.{empty_call}
use Rattle.clocks.proofs.Answers.{is_fit, alone_fit, still_ok, still_err, none_there}
use Rattle.clocks.proofs.VClock.is_empty.Goals as goal

pub returns-in_err-judged : goal.returns-in_err-judged
unfolding empty_call
returns-in_err-judged c = let p = err_from_is_err_and c.from_residual.result c.from_residual.ensures.1 in rw (p.1, p.2) (still_err _ _ _ c.in_err-judged.ensures)

pub returns : goal.returns
unfolding empty_call
returns c =
    let s = c.args.self in
    let long : length s.dots ≡ 16 = search rules in
    let f = is_fit _ _ c.in_ok-judged.ensures in
    let few_are = few s (alone_fit s _ f.0) in
    rw (f.1, none_there s.dots s.len (omega arith)) (still_ok _ _ _ c.in_ok-judged.ensures)
