mod Projections
