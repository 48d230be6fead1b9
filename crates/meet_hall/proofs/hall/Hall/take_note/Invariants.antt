use Rattle.meet_hall.proofs.hall.Hall.take_note.Given as goal

abbrev pub ghosts-take_note_as : goal.ghosts-take_note_as
ghosts-take_note_as g a = record { place = a.place }
