use Rattle.meet_hall.proofs.hall.Hall.issue.Given as goal

abbrev pub ghosts-issue_as : goal.ghosts-issue_as
ghosts-issue_as g a = record { place = a.place }
