-- The fields of a book with its list as its insides.
use Rattle.listed_book.specs.declared.listed.ListedBook.TheInside.{Inside}
use Rattle.listed_book.specs.Kept.{Insides}

abbrev pub insides_of : Inside → Insides
insides_of b = record { book = b.book; pen = b.pen; looked = b.looked; stopped = b.stopped; passes = b.passes.items }
