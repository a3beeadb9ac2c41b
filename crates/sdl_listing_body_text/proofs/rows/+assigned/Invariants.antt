use Rattle.sdl_listing_body_text.proofs.rows.+assigned.Given as goal

abbrev pub decreases-assigned : goal.decreases-assigned
decreases-assigned l = l.count
