use Rattle.merge.proofs.Room.{inside, counted}
use Rattle.merge.proofs.main.Goals as goal

pub slice_bounds-out-end : goal.slice_bounds-out-end
slice_bounds-out-end c = inside _ _ _ _ _ c.in-Ok.ensures

pub slice_bounds-store-end : goal.slice_bounds-store-end
slice_bounds-store-end c = counted _ _ _ _ _ c.in-Ok.ensures
