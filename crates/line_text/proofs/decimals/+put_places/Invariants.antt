use Rattle.line_text.proofs.decimals.+put_places.Given as goal

abbrev pub decreases-put_places : goal.decreases-put_places
decreases-put_places l = l.count
