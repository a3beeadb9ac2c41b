mod AllEnds
