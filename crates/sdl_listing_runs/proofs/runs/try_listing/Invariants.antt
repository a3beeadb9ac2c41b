use Rattle.sdl_listing_runs.proofs.runs.try_listing.Given as goal

abbrev pub ghosts-run_rows : goal.ghosts-run_rows
ghosts-run_rows g a = record { rows = a.to_store.rows.items }
