mod RankKept
mod RankChain
mod WholePrograms
