use Rattle.sdl_listing_binding.proofs.behaviours.+take_rows.Given as goal

abbrev pub decreases-take_rows : goal.decreases-take_rows
decreases-take_rows g l = l.count
